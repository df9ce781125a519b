-- `report::pieces::put_rules`: the first i rules are written.
use mathlib.Core.Path.{◌≡◌}
use native.Mathlib.Omega.{arith}
use lib.ListN.{length, take}
use lib.Seq.{take-length}
use Rattle.report.specs.Report.{spaced}
use Rattle.report.proofs.Wrote.{wrote_then, wrote_none}
use Rattle.report.proofs.Digits.{decimal-byte, spaced-more}
use Rattle.report.proofs.pieces.put_rules.Goals as goal

pub loop-rule-init : goal.loop-rule-init
unfolding spaced
loop-rule-init c = (omega arith, omega arith, wrote_none _ _)

pub overflow_cast-rule : goal.overflow_cast-rule
overflow_cast-rule c = omega (arith, c.type_inv.rules c.loop-rule.rule-index)

pub put_one-end-requires : goal.put_one-end-requires
put_one-end-requires c = let l = c.loop-rule in
    (decimal-byte _ (omega (arith, c.type_inv.rules l.rule-index)), omega (arith, l.invariant.2.long, c.requires))

pub loop-rule-preserved : goal.loop-rule-preserved
loop-rule-preserved c = let o = c.put_one-end in
    let l = c.loop-rule in
    let a = c.args in
    let more = spaced-more a.rules.now l.rule-index (omega arith) in (
      omega arith,
      omega (arith, o.ensures.1),
      rw more (wrote_then a.out.now a.at _ _ _ _ _ _ l.invariant.2 o.ensures.0),
    )

pub shape_of-out : goal.shape_of-out
shape_of-out c = c.loop-rule.invariant.2.long

pub returns : goal.returns
returns c = let l = c.loop-rule in
    let a = c.args in
    let e : l.rule-index ≡ length a.rules.now = omega arith in
    let whole : take l.rule-index a.rules.now ≡ a.rules.now = rw e (take-length a.rules.now) in
    (rw whole at l.invariant.2, omega arith)
