-- `search::tables::lay_writers`: the rows below y are laid.
use mathlib.Core.Path.{sym, ap, ◌∙◌}
use native.Mathlib.Omega.{arith}
use Rattle.rows.specs.Empty.{empty_of}
use Rattle.search.proofs.Rowing.{filling-none, filling-row, filling-all, writers-row}
use Rattle.search.proofs.tables.lay_writers.Goals as goal

pub loop-y-init : goal.loop-y-init
loop-y-init c = (omega arith, filling-none c.args.t.len _ _ (c.clear.ensures ∙ ap empty_of c.requires.1))

pub lay_others-requires : goal.lay_others-requires
lay_others-requires c = (omega (arith, c.loop-y-test.true, c.requires.0), c.loop-y.invariant.1.long)

pub loop-y-preserved : goal.loop-y-preserved
loop-y-preserved c = let a = c.args in
    (omega (arith, c.loop-y-test.true), filling-row c.loop-y.y a.t.len _ _ _ c.loop-y.invariant.1 _ _ c.lay_others.ensures (writers-row a.t a.by.now c.requires.2 c.loop-y.y _ c.address-addr.ensures))

pub shape_of-writers : goal.shape_of-writers
shape_of-writers c = c.loop-y.invariant.1.long ∙ sym c.requires.1

pub returns : goal.returns
returns c = filling-all c.loop-y.y c.args.t.len _ _ (omega (arith, c.loop-y-test.false, c.loop-y.invariant.0)) c.loop-y.invariant.1
