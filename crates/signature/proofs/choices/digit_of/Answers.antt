-- `signature::choices::digit_of`: what was counted and the place in what is still to come are the digit.
use mathlib.Core.Path.{◌≡◌, sym, ap, ◌∙◌}
use mathlib.Core.Bool.{not, ◌&&◌}
use Prim.Native.Nat.{ℕ, ◌+◌}
use native.Mathlib.Omega.{arith}
use lib.Dec.{eqb}
use Rattle.trace.specs.Op.{address, writes}
use Rattle.trace.specs.Trace.{at, first}
use Rattle.signature.specs.Reads.{other}
use Rattle.laws.specs.Places.{pos}
use Rattle.laws.proofs.Tests.{and-iff, same-iff, so-eq}
use borrow.Author.Tests.{eqb-false}
use Rattle.signature.proofs.Passing.{wrote, digit-first, digit-whole, digit-hit, digit-one, digit-none, digit-end, and-off}
use Rattle.signature.proofs.choices.digit_of.Goals.{After-first, After-other-another, else-another, then-another}
use Rattle.signature.proofs.choices.digit_of.Goals as goal

-- the code's test is the definition's
told : (c : After-other-another) → c.other-another.result ≡ other c.args.t c.args.load c.loop-i.i
unfolding other
told c =
    let o = at c.args.t c.loop-i.i in
    c.other-another.ensures ∙ ap (λ (a : ℕ). writes o && eqb (address o) a && not (eqb c.loop-i.i c.args.load)) c.address-addr.ensures

-- the first value of the load's address
begins : (c : After-first) → c.first.result ≡ first c.args.t (address (at c.args.t c.args.load))
begins c = c.first.ensures ∙ ap (first c.args.t) c.address-addr.ensures

pub returns-then-value-first : goal.returns-then-value-first
returns-then-value-first c = digit-first c.args.t c.args.load c.args.value (c.if-value-first.true ∙ begins (goal.at.returns-then-value-first c).After-first)

pub loop-i-init : goal.loop-i-init
loop-i-init c = (omega arith, omega arith, digit-whole c.args.t c.args.load c.args.value (λ e. c.if-value-first.false (e ∙ sym (begins (goal.at.loop-i-init c).After-first))))

pub returns-then-another-written : goal.returns-then-another-written
returns-then-another-written c =
    let both = (and-iff (same-iff {a = c.other-another.result}) (so-eq {m = c.written.result} {n = c.args.value})).0 c.if-another-written.true in
    digit-hit c.args.t c.args.load c.args.value c.loop-i.i c.loop-i-test.true c.loop-i.d c.loop-i.invariant.2 (sym (told (goal.at.returns-then-another-written c).After-other-another) ∙ both.0) (sym c.written.ensures ∙ both.1)

pub loop-i-preserved : goal.loop-i-preserved
loop-i-preserved c =
    let h = c.loop-i-test.true in (
      omega arith,
      (elim c.if-another.branch [ then-another u ↦ omega (arith, u.d-is) | else-another u ↦ omega (arith, u.d-is) ]),
      (elim c.if-another.branch [
        | then-another u ↦ ap (λ (d : ℕ). d + pos (wrote c.args.t c.args.load (c.loop-i.i + 1)) c.args.value) u.d-is
            ∙ digit-one c.args.t c.args.load c.args.value c.loop-i.i h c.loop-i.d c.loop-i.invariant.2 (sym (told (goal.at.loop-i-preserved c).After-other-another) ∙ u.if-another.true) (λ e. eqb-false c.written.result c.args.value (and-off c.other-another.result _ c.if-another-written.false u.if-another.true) (c.written.ensures ∙ e))
        | else-another u ↦ ap (λ (d : ℕ). d + pos (wrote c.args.t c.args.load (c.loop-i.i + 1)) c.args.value) u.d-is
            ∙ digit-none c.args.t c.args.load c.args.value c.loop-i.i h c.loop-i.d c.loop-i.invariant.2 (sym (told (goal.at.loop-i-preserved c).After-other-another) ∙ u.if-another.false)
      ]),
    )

pub returns : goal.returns
returns c = digit-end c.args.t c.args.load c.args.value c.loop-i.i c.loop-i-test.false c.loop-i.d c.loop-i.invariant.2
