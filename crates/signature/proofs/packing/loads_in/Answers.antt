-- `signature::packing::loads_in`: what was counted and what is still to come are all.
use mathlib.Core.Path.{sym, ap, ◌∙◌}
use native.Mathlib.Omega.{arith}
use lib.ListN.{length}
use Rattle.signature.proofs.Passing.{loads-whole, loads-one, loads-none, loads-end}
use Rattle.signature.proofs.packing.loads_in.Goals.{else-reads, then-reads}
use Rattle.signature.proofs.packing.loads_in.Goals as goal

pub loop-i-init : goal.loop-i-init
loop-i-init c = let t = c.args.t in (omega arith, omega arith, omega (arith, ap length (loads-whole t)))

pub loop-i-preserved : goal.loop-i-preserved
loop-i-preserved c =
    let t = c.args.t in
    let h = c.loop-i-test.true in (
      omega arith,
      (elim c.if-reads.branch [ then-reads w ↦ omega (arith, w.count-is) | else-reads w ↦ omega (arith, w.count-is) ]),
      (elim c.if-reads.branch [ then-reads w ↦ omega (arith, w.count-is, c.loop-i.invariant.2, ap length (loads-one t c.loop-i.i h (sym c.reads.ensures ∙ w.if-reads.true))) | else-reads w ↦ omega (arith, w.count-is, c.loop-i.invariant.2, ap length (loads-none t c.loop-i.i h (sym c.reads.ensures ∙ w.if-reads.false))) ]),
    )

pub returns : goal.returns
returns c = let t = c.args.t in (omega (arith, c.loop-i.invariant.2, ap length (loads-end t c.loop-i.i c.loop-i-test.false)), omega arith)
