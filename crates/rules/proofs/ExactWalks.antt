-- Walks of an exact length.
--
--   run-walk, walk-run              == a walk is a run
--   walk-on                         == a walk's last edge, as its first is by definition
--   circle-walk, walk-circle        == a circle is a closed walk
--   no-shorter-one, no-shorter-next == lengths tried one after the other, from 1 on
--   no-shorter-none                 == and once all up to n are tried, there is no circle
--   walk-within                     == walks stay where the edges are
--   walk-iff                        == `walk?` says so
use mathlib.Core.Path.{◌≡◌, refl, sym, subst}
use mathlib.Core.Logic.{inl, inr, ◌↔◌}
use mathlib.Core.Bool.{So, ◌&&◌}
use mathlib.Core.List.{List, [], ◌∷◌}
use mathlib.Core.Option.{none}
use Prim.Native.Nat.{ℕ, zero, suc, ◌≤◌, ◌<◌}
use native.Mathlib.Decide.{dec_lt}
use native.Mathlib.Omega.{arith}
use lib.Dec.{eqb}
use lib.ListN.{length}
use Rattle.laws.specs.Tests.{any}
use Rattle.laws.specs.Relation.{Rel, Table}
use Rattle.laws.proofs.Tests.{and-iff, any-iff, so-eq, eq?}
use Rattle.laws.proofs.Warshall.{memo-iff}
use Rattle.rules.specs.Circle.{Run, Circle, Shown}
use Rattle.rules.specs.inner.ExactWalks.{Walk, NoShorter}
use Rattle.rules.specs.ComputedWalks.{walk?}
use Rattle.rules.proofs.Circle.{circle-shorten, circle-iff}

module _ (E : Rel) where
  pub run-walk : (x : ℕ) (xs : List ℕ) (z : ℕ) → Run E x xs z → Walk E (suc (length xs)) x z
  run-walk x [] z r = (z, r, refl)
  run-walk x (y ∷ ys) z r = (y, r.0, run-walk y ys z r.1)

  pub walk-run : (j x z : ℕ) → Walk E (suc j) x z → (xs : List ℕ) × (length xs ≡ j) × Run E x xs z
  walk-run zero x z (m, e, q) = ([], refl, subst (E x) q e)
  walk-run (suc j) x z (m, e, w) = let (xs, l, r) = walk-run j m z w in (m ∷ xs, omega arith, (e, r))

  pub walk-on : (j x z : ℕ) → Walk E (suc j) x z ↔ ((y : ℕ) × Walk E j x y × E y z)
  walk-on zero x z = (λ w. (x, refl, subst (E x) w.2 w.1), λ w. (z, subst (λ (y : ℕ). E y z) (sym w.1) w.2, refl))
  walk-on (suc j) x z = (
    λ w. let (y, v, e) = (walk-on j w.0 z).0 w.2 in (y, (w.0, w.1, v), e),
    λ w. let (m, d, v) = w.1 in (m, d, (walk-on j m z).1 (w.0, v, w.2)),
  )

  pub circle-walk : (c : List ℕ) → Circle E c → (x : ℕ) × Walk E (length c) x x
  circle-walk [] h = absurd h
  circle-walk (x ∷ xs) h = (x, run-walk x xs x h)

  pub walk-circle : (j x : ℕ) → 0 < j → Walk E j x x → (c : List ℕ) × (length c ≡ j) × Circle E c
  walk-circle zero x p w = absurd (omega arith)
  walk-circle (suc j) x p w = let (xs, l, r) = walk-run j x x w in (x ∷ xs, omega arith, r)

  pub no-shorter-one : NoShorter E 1
  unfolding NoShorter
  no-shorter-one j x p l w = omega arith

  pub no-shorter-next : (k : ℕ) → NoShorter E k → ((x : ℕ) → Walk E k x x → ⊥) → NoShorter E (suc k)
  unfolding NoShorter
  no-shorter-next k h out j x p l w = elim (eq? j k) [ inl e ↦ out x (subst (λ (j : ℕ). Walk E j x x) e w) | inr d ↦ h j x p (omega arith) w ]

  module _ (n : ℕ) (rows : (x y : ℕ) → E x y → (x < n) × (y < n)) where
    pub walk-within : (j x y : ℕ) → Walk E (suc j) x y → (x < n) × (y < n)
    walk-within zero x y (m, e, q) = ((rows x m e).0, subst (λ (y : ℕ). y < n) q (rows x m e).1)
    walk-within (suc j) x y (m, e, w) = ((rows x m e).0, (walk-within j m y w).1)

    pub no-shorter-none : (k : ℕ) → n < k → NoShorter E k → Shown E none
    unfolding NoShorter
    no-shorter-none k l h d c = down (length d) d c (omega arith)
      where
        down : (b : ℕ) (d : List ℕ) → Circle E d → length d ≤ b → ⊥
        down zero d c m = omega (arith, ((circle-iff E d).0 c).0)
        down (suc b) d c m = elim (dec_lt n (length d)) [
          | yes g ↦ let r = circle-shorten E n rows d c g in down b r.0 r.1 (omega arith)
          | no g ↦ let w = circle-walk d c in h (length d) w.0 ((circle-iff E d).0 c).0 (omega arith) w.1
        ]

    module _ (e : Table) (q : (x y : ℕ) → So (e x y) ↔ E x y) where
      -- a walk between numbers below n
      Inside : ℕ → Rel
      Inside j x y = ((x < n) × (y < n)) × Walk E j x y

      inside-iff : (j x y : ℕ) → So (walk? n e j x y) ↔ Inside j x y
      unfolding walk? Inside
      inside-iff zero x y = memo-iff n eqb (Inside 0) (λ x y w. w.0) (λ x y a b. (λ t. ((a, b), so-eq.0 t), λ w. so-eq.1 w.1)) x y
      inside-iff (suc j) x y = memo-iff n _ (Inside (suc j)) (λ x y w. w.0) (step (inside-iff j)) x y
        where
          step : ((x y : ℕ) → So (walk? n e j x y) ↔ Inside j x y) → (x y : ℕ) → x < n → y < n → So (any n (λ m. e x m && walk? n e j m y)) ↔ Inside (suc j) x y
          step r x y a b =
              let i : So (any n (λ m. e x m && walk? n e j m y)) ↔ ((m : ℕ) × (m < n) × (E x m × Inside j m y)) = any-iff (λ m. and-iff (q x m) (r m y)) in
              (λ t. let (m, l, (d, w)) = i.0 t in ((a, b), (m, d, w.1)), λ w. let (m, d, v) = w.1 in i.1 (m, (rows x m d).1, (d, (((rows x m d).1, b), v))))

      pub walk-iff : (j x y : ℕ) → x < n → y < n → So (walk? n e j x y) ↔ Walk E j x y
      unfolding Inside
      walk-iff j x y a b = (λ t. ((inside-iff j x y).0 t).1, λ w. (inside-iff j x y).1 ((a, b), w))
