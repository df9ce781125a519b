-- `packed::unpacking::firsts_in`: what is left of the first values, put into those so far, is what all of them come to.
use mathlib.Core.Path.{◌≡◌, refl, sym, ap, ◌∙◌}
use mathlib.Core.Logic.{◌≢◌, ◌⊎◌, inl, inr}
use mathlib.Core.Bool.{true, false, ◌||◌}
use lib.Dec.{eqb, ltb}
use borrow.Author.Tests.{ne_eqb, le-ltb}
use Prim.Native.Nat.{ℕ, ◌≤◌, ◌<◌, ◌+◌, ◌*◌}
use native.Mathlib.Omega.{arith}
use lib.ListN.{get_or, set}
use Rattle.laws.proofs.Tests.{or-iff, so-eq, so-lt}
use Rattle.trace.specs.declared.Trace.{Trace}
use Rattle.packed.specs.Layout.{HEAD, FIRST}
use Rattle.packed.specs.FileRead.{good}
use Rattle.packed.proofs.Steps.{first-bad, first_past, first_next, first-over}
use Rattle.packed.proofs.unpacking.firsts_in.Goals as goal

-- the two tests of a first value
bad : (v a low : ℕ) → (v ≡ 0) ⊎ ((v ≢ 0) × (a < low)) → (eqb v 0 || ltb a low) ≡ true
bad v a low e = (or-iff so-eq so-lt).1 (elim e [ inl z ↦ inl z | inr p ↦ inr p.1 ])

no-bad : (v a low : ℕ) → v ≢ 0 → low ≤ a → (eqb v 0 || ltb a low) ≡ false
no-bad v a low d l = rw (ne_eqb v 0 d, le-ltb a low l) refl

pub returns-then-value-eq0 : goal.returns-then-value-eq0
returns-then-value-eq0 c =
    let a = c.args in
    c.back.ensures ∙ sym (first-bad a.count c.loop-i.i c.loop-i.low c.loop-i.trace.firsts a.bytes.now (omega arith) c.two_at-value.result c.two_at-value.ensures (bad _ _ _ c.then-value-eq0.either)) ∙ c.loop-i.invariant.3

pub returns-then-addr-ge-FIRSTS : goal.returns-then-addr-ge-FIRSTS
returns-then-addr-ge-FIRSTS c =
    let a = c.args in
    c.back-then-addr-ge-FIRSTS.ensures
    ∙ sym (first_past a.count c.loop-i.i c.loop-i.low c.loop-i.trace.firsts a.bytes.now (omega arith) c.two_at-value.result c.two_at-value.ensures (no-bad _ _ _ c.if-value-eq0.false c.if-addr-low.false) c.if-addr-ge-FIRSTS.true)
    ∙ c.loop-i.invariant.3

pub loop-i-preserved : goal.loop-i-preserved
loop-i-preserved c =
    let a = c.args in
    let at = get_or a.bytes.now (HEAD + FIRST * c.loop-i.i) 0 in (
      omega arith,
      omega arith,
      ap (λ (t : Trace). record { records = t.records; len = t.len; firsts = set c.loop-i.trace.firsts at c.two_at-value.result }) c.loop-i.invariant.2,
      sym (first_next a.count c.loop-i.i c.loop-i.low c.loop-i.trace.firsts a.bytes.now (omega arith) c.two_at-value.result c.two_at-value.ensures (no-bad _ _ _ c.if-value-eq0.false c.if-addr-low.false) c.if-addr-ge-FIRSTS.false) ∙ c.loop-i.invariant.3,
    )

pub returns : goal.returns
returns c =
    let a = c.args in
    ap good c.loop-i.invariant.2 ∙ sym (first-over a.count c.loop-i.i c.loop-i.low c.loop-i.trace.firsts a.bytes.now (omega arith)) ∙ c.loop-i.invariant.3
