-- `search::tables::lay_readers`: the rows below y are laid.
use mathlib.Core.Path.{◌≡◌, sym, ap, ◌∙◌}
use native.Mathlib.Omega.{arith}
use Rattle.rows.specs.Empty.{empty_of}
use Rattle.search.proofs.Rowing.{filling-none, filling-row, filling_skip, filling-all, readers-row}
use Rattle.rows.specs.Rows.{Edges}
use Rattle.search.specs.inner.TablesLaid.{Rowed}
use Rattle.search.proofs.tables.lay_readers.Goals.{else-writes, then-writes}
use Rattle.search.proofs.tables.lay_readers.Goals as goal

pub loop-y-init : goal.loop-y-init
loop-y-init c = (omega arith, filling-none c.args.t.len _ _ (c.clear.ensures ∙ ap empty_of c.requires.1))

pub lay_others-requires : goal.lay_others-requires
lay_others-requires c = (omega (arith, c.loop-y-test.true, c.requires.0), c.loop-y.invariant.1.long)

pub loop-y-preserved : goal.loop-y-preserved
loop-y-preserved c = let a = c.args in
    let below = c.loop-y-test.true in (
      omega (arith, below),
      (elim c.if-writes.branch [
        | then-writes w ↦ let done : Rowed c.loop-y.y (Edges a.by.now w.address-addr.result) (λ x. x ≡ c.loop-y.y) c.loop-y.readers c.if-writes.readers = rw w.readers-is w.lay_others.ensures in
            (filling-row c.loop-y.y a.t.len _ _ _ c.loop-y.invariant.1 _ _ done (readers-row a.t a.by.now c.requires.2 c.loop-y.y _ below (sym c.writes.ensures ∙ w.if-writes.true) w.address-addr.ensures))
        | else-writes w ↦ let e : c.if-writes.readers ≡ c.loop-y.readers = w.readers-is in
            rw e (filling_skip a.t c.loop-y.y _ below (sym c.writes.ensures ∙ w.if-writes.false) c.loop-y.invariant.1)
      ]),
    )

pub shape_of-readers : goal.shape_of-readers
shape_of-readers c = c.loop-y.invariant.1.long ∙ sym c.requires.1

pub returns : goal.returns
returns c = filling-all c.loop-y.y c.args.t.len _ _ (omega (arith, c.loop-y-test.false, c.loop-y.invariant.0)) c.loop-y.invariant.1
