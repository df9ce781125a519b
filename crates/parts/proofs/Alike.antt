-- What is left depends on which of the records are left alone.
--
--   picked_more, olds-more == one record further
--   picked-few, olds-few   == there are no more than were looked at
--   picked-alike, olds-alike == two sets that agree below the length leave the same
use mathlib.Core.Path.{◌≡◌, refl, ap, ◌∙◌}
use mathlib.Core.Bool.{Bool, true, false, cond}
use mathlib.Core.List.{List, [], ◌∷◌, ◌++◌}
use Prim.Native.Nat.{ℕ, zero, suc, ◌+◌, ◌≤◌, ◌<◌}
use native.Mathlib.Decide.{dec_lt}
use native.Mathlib.Numerals.{add-one}
use native.Mathlib.Omega.{arith}
use lib.ListN.{length, length-append}
use borrow.Author.Tests.{le-ltb}
use Rattle.trace.specs.Bounds.{RECORDS}
use Rattle.trace.specs.Trace.{at, pushed}
use Rattle.trace.specs.declared.Op.{Op}
use Rattle.trace.specs.declared.Trace.{Trace}
use Rattle.trace.proofs.Places.{pushed-len}
use Rattle.trace.proofs.Growth.{up_to-len}
use Rattle.parts.specs.Removal.{Set}
use Rattle.parts.specs.Picked.{picked_to, olds_to}

module _ (t : Trace) (A : Set) where
  pub picked_more : (k : ℕ) → picked_to t A (k + 1) ≡ cond (A k) (pushed (picked_to t A k) (at t k)) (picked_to t A k)
  unfolding picked_to
  picked_more k = rw add-one refl

  -- a full trace stays as it is
  pushed-few : (u : Trace) (o : Op) → (pushed u o).len ≤ u.len + 1
  unfolding pushed
  pushed-few u o = elim (dec_lt u.len RECORDS) [
    | yes h ↦ omega (arith, pushed-len u o h)
    | no h ↦ rw (le-ltb u.len RECORDS (omega arith)) (omega arith)
  ]

  pub picked-few : (k : ℕ) → (picked_to t A k).len ≤ k
  unfolding picked_to
  picked-few zero = omega (arith, up_to-len t 0)
  picked-few (suc k) = go (A k) (picked-few k)
    where
      go : (b : Bool) → (picked_to t A k).len ≤ k → (cond b (pushed (picked_to t A k) (at t k)) (picked_to t A k)).len ≤ suc k
      go true h = omega (arith, pushed-few (picked_to t A k) (at t k))
      go false h = omega arith

pub olds-more : (A : Set) (k : ℕ) → olds_to A (k + 1) ≡ cond (A k) (olds_to A k ++ k ∷ []) (olds_to A k)
unfolding olds_to
olds-more A k = rw add-one refl

pub olds-few : (A : Set) (k : ℕ) → length (olds_to A k) ≤ k
unfolding olds_to
olds-few A zero = omega arith
olds-few A (suc k) = go (A k) (olds-few A k)
  where
    go : (b : Bool) → length (olds_to A k) ≤ k → length (cond b (olds_to A k ++ k ∷ []) (olds_to A k)) ≤ suc k
    go true h = omega (arith, length-append (olds_to A k) (k ∷ []))
    go false h = omega arith

module _ (A B : Set) where
  pub picked-alike : (t : Trace) (k : ℕ) → ((x : ℕ) → x < k → A x ≡ B x) → picked_to t A k ≡ picked_to t B k
  unfolding picked_to
  picked-alike t zero h = refl
  picked-alike t (suc k) h =
      ap (λ (b : Bool). cond b (pushed (picked_to t A k) (at t k)) (picked_to t A k)) (h k (omega arith))
      ∙ ap (λ (u : Trace). cond (B k) (pushed u (at t k)) u) (picked-alike t k (λ x l. h x (omega arith)))

  pub olds-alike : (k : ℕ) → ((x : ℕ) → x < k → A x ≡ B x) → olds_to A k ≡ olds_to B k
  unfolding olds_to
  olds-alike zero h = refl
  olds-alike (suc k) h =
      ap (λ (b : Bool). cond b (olds_to A k ++ k ∷ []) (olds_to A k)) (h k (omega arith))
      ∙ ap (λ (l : List ℕ). cond (B k) (l ++ k ∷ []) l) (olds-alike k (λ x l. h x (omega arith)))
