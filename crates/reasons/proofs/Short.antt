-- A branch that names no edge twice has no more entries than there are pairs of records, so the reader has room for one entry more.
--
--   distinct-short == n * n entries at the most
--   roomy-new      == and fewer, where an edge is left that it does not name
--   fair-one       == that edge may be named
use mathlib.Core.Path.{subst}
use mathlib.Core.Logic.{inl, inr}
use mathlib.Core.Bool.{So}
use mathlib.Core.List.{List, [], ◌∷◌}
use Prim.Native.Nat.{ℕ, ◌*◌, ◌<◌, ◌≤◌}
use native.Mathlib.Nat.{mul-le-mul}
use native.Mathlib.Omega.{arith}
use lib.ListN.{length, length-append}
use Rattle.laws.proofs.GrowingTables.{pairs}
use Rattle.laws.proofs.Growth.{pairs-bound, pairs-more}
use Rattle.laws.proofs.Tests.{so-lt}
use Rattle.trace.specs.Bounds.{RECORDS}
use Rattle.papers.specs.Paper.{BRANCH, Claim, named, branch_room}
use Rattle.reasons.specs.inner.Fair.{Named, Distinct, none_yet, further, Fair}
use Rattle.reasons.specs.Telling.{inside}
use Rattle.reasons.proofs.Names.{inside-iff, named-grow, named-last, named-cases}

module _ (n : ℕ) where
  counted : {E : List Claim} → Distinct E → ((x y : ℕ) → Named E x y → (x < n) × (y < n)) → length E ≤ pairs n (inside E)
  counted none_yet b = omega arith
  counted (further {E} {x} {y} d out) b =
      let r = counted d (λ u v m. b u v (named-grow E (record { from = x; to = y } ∷ []) u v m)) in
      let here = b x y (named-last E x y) in
      omega (
        arith,
        length-append E (record { from = x; to = y } ∷ []),
        pairs-more n (inside E) (inside (named E x y)) (λ u v i. (inside-iff (named E x y) u v).1 (named-grow E (record { from = x; to = y } ∷ []) u v ((inside-iff E u v).0 i))) x y here.0 here.1
            ((inside-iff (named E x y) x y).1 (named-last E x y)) (λ i. out ((inside-iff E x y).0 i)),
      )

  pub distinct-short : {E : List Claim} → Distinct E → ((x y : ℕ) → Named E x y → (x < n) × (y < n)) → length E ≤ n * n
  distinct-short {E} d b = omega (arith, counted d b, pairs-bound n (inside E))

  module _ (E : List Claim) (fair : Fair n E) (x y : ℕ) (out : Named E x y → ⊥) (here : (x < n) × (y < n)) where
    pub fair-one : Fair n (named E x y)
    fair-one = record {
      once = further fair.once out;
      below = λ a b m. elim (named-cases E x y a b m) [
        | inl u ↦ fair.below a b u
        | inr q ↦ (subst (λ (a : ℕ). a < n) q.0 here.0, subst (λ (b : ℕ). b < n) q.1 here.1)
      ];
    }

    pub roomy-new : n ≤ RECORDS → So (branch_room E)
    roomy-new small =
        let s : length (named E x y) ≤ n * n = distinct-short fair-one.once fair-one.below in
        let l : n * n ≤ RECORDS * RECORDS = mul-le-mul small small in
        let r : length E < BRANCH = omega (arith, s, l, length-append E (record { from = x; to = y } ∷ [])) in
        so-lt.1 r
