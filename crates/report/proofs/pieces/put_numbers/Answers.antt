-- `report::pieces::put_numbers`: the first i numbers are written.
use mathlib.Core.Path.{◌≡◌}
use native.Mathlib.Omega.{arith}
use lib.ListN.{length, take}
use lib.Seq.{take-length}
use Rattle.report.specs.Report.{spaced}
use Rattle.report.proofs.Wrote.{wrote_then, wrote_none}
use Rattle.report.proofs.Digits.{decimal-record, spaced-more}
use Rattle.report.proofs.pieces.put_numbers.Goals as goal

pub loop-n-init : goal.loop-n-init
unfolding spaced
loop-n-init c = (omega arith, omega arith, wrote_none _ _)

pub overflow_cast-n : goal.overflow_cast-n
overflow_cast-n c = omega (arith, c.type_inv.list c.loop-n.n-index)

pub put_one-end-requires : goal.put_one-end-requires
put_one-end-requires c = let l = c.loop-n in
    (decimal-record _ (c.requires.1 l.n-index), omega (arith, l.invariant.2.long, c.requires.0))

pub loop-n-preserved : goal.loop-n-preserved
loop-n-preserved c = let o = c.put_one-end in
    let l = c.loop-n in
    let a = c.args in
    let more = spaced-more a.list.now l.n-index (omega arith) in (
      omega arith,
      omega (arith, o.ensures.1),
      rw more (wrote_then a.out.now a.at _ _ _ _ _ _ l.invariant.2 o.ensures.0),
    )

pub shape_of-out : goal.shape_of-out
shape_of-out c = c.loop-n.invariant.2.long

pub returns : goal.returns
returns c = let l = c.loop-n in
    let a = c.args in
    let e : l.n-index ≡ length a.list.now = omega arith in
    let whole : take l.n-index a.list.now ≡ a.list.now = rw e (take-length a.list.now) in
    (rw whole at l.invariant.2, omega arith)
