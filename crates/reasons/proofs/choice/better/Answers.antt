-- `choice::better`: each way out by the sides that fall.
use mathlib.Core.Path.{refl, sym, ◌∙◌, subst⁻¹}
use mathlib.Core.Logic.{inl, inr, ⊎_elim}
use mathlib.Core.Bool.{true, false}
use Prim.Native.Nat.{ℕ, ◌+◌}
use native.Mathlib.Omega.{arith}
use Rattle.laws.proofs.Tests.{off, and-iff, not_iff, same-iff, so-le}
use Rattle.trace.specs.Meaning.{frame_of}
use Rattle.pairs.specs.Kept.{kept_of}
use Rattle.papers.specs.Paper.{named}
use Rattle.reasons.specs.Writing.{fallen}
use Rattle.reasons.specs.inner.Choice.{BOTH, Higher}
use Rattle.reasons.proofs.Ranks.{higher-by, ranked-half, ranked-one, ranked-none, open-known, open-operations}
use Rattle.reasons.proofs.choice.better.Goals as goal

pub returns-then-not-open : goal.returns-then-not-open
returns-then-not-open c = (
  λ E k.
      let a = c.args in
      let f = frame_of a.t in
      let K = kept_of a.model a.t in
      let o = sym (c.if-not-open.true) ∙ c.open.ensures ∙ open-known a.t c.requires.0 a.model a.x a.y E _ _ _ k c.requires.2 c.requires.3 in
      higher-by f K E a.x a.y false _ _ o refl refl a.best a.best (record { keeps = omega arith; reaches = omega arith; one = inl refl }),
  c.requires.4,
)

pub fallen-one-requires : goal.fallen-one-requires
fallen-one-requires c =
    let a = c.args in
    let o = open-operations a.t c.requires.0 a.model a.x a.y _ _ _ (sym c.open.ensures ∙ c.if-not-open.false) in
    (c.requires.0, c.requires.1, o.0, o.1)

pub returns-then-best-one : goal.returns-then-best-one
returns-then-best-one c = (
  λ E k.
      let a = c.args in
      let f = frame_of a.t in
      let K = kept_of a.model a.t in
      let o = sym (c.if-not-open.false) ∙ c.open.ensures ∙ open-known a.t c.requires.0 a.model a.x a.y E _ _ _ k c.requires.2 c.requires.3 in
      let s = (and-iff (so-le {m = BOTH} {n = a.best + 1}) (not_iff (same-iff {a = c.fallen-one.result}))).0 c.if-best-one.true in
      higher-by f K E a.x a.y true false _ o (sym (off s.1) ∙ c.fallen-one.ensures E k.long k.supposed) refl a.best a.best
      (record { keeps = omega arith; reaches = omega (arith, s.0, ranked-half (fallen f K (named E a.y a.x))); one = inl refl }),
  c.requires.4,
)

pub fallen-other-requires : goal.fallen-other-requires
fallen-other-requires c =
    let a = c.args in
    let o = open-operations a.t c.requires.0 a.model a.x a.y _ _ _ (sym c.open.ensures ∙ c.if-not-open.false) in
    (c.requires.0, c.requires.1, o.1, o.0)

pub returns-then-one-other : goal.returns-then-one-other
returns-then-one-other c = (
  λ E k.
      let a = c.args in
      let f = frame_of a.t in
      let K = kept_of a.model a.t in
      let o = sym (c.if-not-open.false) ∙ c.open.ensures ∙ open-known a.t c.requires.0 a.model a.x a.y E _ _ _ k c.requires.2 c.requires.3 in
      let p = c.fallen-one.ensures E k.long k.supposed in
      let q = c.fallen-other.ensures E k.long k.supposed in
      let s = (and-iff (same-iff {a = c.fallen-one.result}) (same-iff {a = c.fallen-other.result})).0 c.if-one-other.true in
      higher-by f K E a.x a.y true true true o (sym s.0 ∙ p) (sym s.1 ∙ q) a.best BOTH (record { keeps = c.requires.4; reaches = omega arith; one = inr refl }),
  omega arith,
)

pub returns-then-one-other-2 : goal.returns-then-one-other-2
returns-then-one-other-2 c = (
  λ E k.
      let a = c.args in
      let f = frame_of a.t in
      let K = kept_of a.model a.t in
      let o = sym (c.if-not-open.false) ∙ c.open.ensures ∙ open-known a.t c.requires.0 a.model a.x a.y E _ _ _ k c.requires.2 c.requires.3 in
      let p = c.fallen-one.ensures E k.long k.supposed in
      let q = c.fallen-other.ensures E k.long k.supposed in
      let e = ranked-one c.fallen-one.result c.fallen-other.result c.if-one-other.false c.if-one-other-2.true in
      higher-by f K E a.x a.y true _ _ o p q a.best c.higher.result (subst⁻¹ (λ (r : ℕ). Higher a.best r c.higher.result) e c.higher.ensures),
  ⊎_elim (λ e. omega (arith, e, c.requires.4)) (λ e. omega (arith, e)) c.higher.ensures.one,
)

pub returns : goal.returns
returns c = (
  λ E k.
      let a = c.args in
      let f = frame_of a.t in
      let K = kept_of a.model a.t in
      let o = sym (c.if-not-open.false) ∙ c.open.ensures ∙ open-known a.t c.requires.0 a.model a.x a.y E _ _ _ k c.requires.2 c.requires.3 in
      let p = c.fallen-one.ensures E k.long k.supposed in
      let q = c.fallen-other.ensures E k.long k.supposed in
      let e = ranked-none c.fallen-one.result c.fallen-other.result c.if-one-other-2.false in
      higher-by f K E a.x a.y true _ _ o p q a.best c.higher-2.result (subst⁻¹ (λ (r : ℕ). Higher a.best r c.higher-2.result) e c.higher-2.ensures),
  ⊎_elim (λ e. omega (arith, e, c.requires.4)) (λ e. omega (arith, e)) c.higher-2.ensures.one,
)
