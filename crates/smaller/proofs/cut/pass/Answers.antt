-- `smaller::cut::pass`: after i looks the others lead to what is left.
use mathlib.Core.Path.{sym, ◌∙◌}
use native.Mathlib.Omega.{arith}
use Rattle.smaller.proofs.Cutting.{passed_none, passed-more, passed-all}
use Rattle.smaller.proofs.cut.pass.Goals as goal

pub loop-i-init : goal.loop-i-init
loop-i-init c = (omega arith, λ w. passed_none c.args.t w c.args.model c.args.kept.now c.requires.3 c.requires.4)

pub try_one-fault-requires : goal.try_one-fault-requires
try_one-fault-requires c = (c.requires.0, c.requires.1, c.requires.2, (c.loop-i.invariant.1 c.requires.0).long)

pub loop-i-preserved : goal.loop-i-preserved
loop-i-preserved c = let l = c.loop-i in
    (omega arith, λ w. passed-more c.args.t w c.args.model l.i l.kept _ (omega arith) (l.invariant.1 w) c.try_one-fault.ensures)

pub shape_of-kept : goal.shape_of-kept
shape_of-kept c = (c.loop-i.invariant.1 c.requires.0).long ∙ sym c.requires.3

pub returns : goal.returns
returns c = let l = c.loop-i in
    passed-all c.args.t c.requires.0 c.args.model l.i l.kept (omega arith) (l.invariant.1 c.requires.0)
