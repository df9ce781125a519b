-- `signature::choices::range_of`: what was counted and what is still to come are all.
use mathlib.Core.Path.{◌≡◌, sym, ap, ◌∙◌}
use mathlib.Core.Bool.{not, ◌&&◌}
use Prim.Native.Nat.{ℕ, ◌+◌}
use native.Mathlib.Omega.{arith}
use lib.Dec.{eqb}
use lib.ListN.{length}
use Rattle.trace.specs.Op.{address, writes}
use Rattle.trace.specs.Trace.{at}
use Rattle.signature.specs.Reads.{other}
use Rattle.signature.proofs.Passing.{comes, range-whole, range-one, range_none, range-end}
use Rattle.signature.proofs.choices.range_of.Goals.{After-other, else-other, then-other}
use Rattle.signature.proofs.choices.range_of.Goals as goal

-- the code's test is the definition's
told : (c : After-other) → c.other.result ≡ other c.args.t c.args.load c.loop-i.i
unfolding other
told c =
    let o = at c.args.t c.loop-i.i in
    c.other.ensures ∙ ap (λ (a : ℕ). writes o && eqb (address o) a && not (eqb c.loop-i.i c.args.load)) c.address-addr.ensures

pub loop-i-init : goal.loop-i-init
loop-i-init c = (omega arith, omega arith, range-whole c.args.t c.args.load)

pub loop-i-preserved : goal.loop-i-preserved
loop-i-preserved c = (
  omega arith,
  (elim c.if-other.branch [ then-other w ↦ omega (arith, w.r-is) | else-other w ↦ omega (arith, w.r-is) ]),
  (elim c.if-other.branch [ then-other w ↦ ap (λ (r : ℕ). r + length (comes c.args.t c.args.load (c.loop-i.i + 1))) w.r-is ∙ range-one c.args.t c.args.load c.loop-i.i c.loop-i-test.true c.loop-i.r c.loop-i.invariant.2 (sym (told (goal.at.loop-i-preserved c).After-other) ∙ w.if-other.true) | else-other w ↦ ap (λ (r : ℕ). r + length (comes c.args.t c.args.load (c.loop-i.i + 1))) w.r-is ∙ range_none c.args.t c.args.load c.loop-i.i c.loop-i-test.true c.loop-i.r c.loop-i.invariant.2 (sym (told (goal.at.loop-i-preserved c).After-other) ∙ w.if-other.false) ]),
)

pub returns : goal.returns
returns c = (range-end c.args.t c.args.load c.loop-i.i c.loop-i-test.false c.loop-i.r c.loop-i.invariant.2, omega arith)
