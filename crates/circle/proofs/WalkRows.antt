-- Rows to which pairs are added turn by turn.
--
--   Some n B      == the pairs of B at some number below n
--   added-one     == one pair is put in
--   added-same    == the same pairs, said otherwise
--   added-when    == pairs added on a condition that holds
--   added_none    == before the first turn
--   added-turn    == a turn adds the pairs of its number
--   added-skip    == or there are none
--   added-far     == or there are none up to a further number
--   added-exactly == what rows that had no pair hold in the end
use mathlib.Core.Path.{◌≡◌, refl, sym, ◌∙◌, subst}
use mathlib.Core.Logic.{◌⊎◌, inl, inr, ◌↔◌}
use mathlib.Core.Bool.{So, false≢true}
use mathlib.Core.List.{List}
use Prim.Native.Nat.{ℕ, ◌+◌, ◌<◌, ◌≤◌}
use native.Mathlib.Decide.{dec_lt}
use native.Mathlib.Omega.{arith}
use lib.ListN.{length}
use Rattle.laws.specs.Relation.{Rel}
use Rattle.laws.proofs.Tests.{and-iff, or-iff, same-iff, so-eq, eq?}
use Rattle.trace.specs.Bounds.{RECORDS}
use Rattle.rows.specs.Bounds.{CELLS}
use Rattle.rows.specs.Empty.{empty_of}
use Rattle.rows.specs.Put.{put_of}
use Rattle.rows.specs.Rows.{bit, Edges}
use Rattle.rows.proofs.Pair.{put-bit, put-long}
use Rattle.rows.proofs.Whole.{empty-bit}
use Rattle.circle.specs.inner.WalkRows.{Exactly, Widened}

abbrev pub Some : ℕ → (ℕ → Rel) → Rel
Some n B x y = (m : ℕ) × (m < n) × B m x y

pub added-one : (rows : List ℕ) (x y : ℕ) → x < RECORDS → y < RECORDS → length rows ≡ CELLS → Widened rows (λ i j. (i ≡ x) × (j ≡ y)) (put_of rows x y)
added-one rows x y hx hy l = record {
  long = put-long rows x y;
  pairs = λ i j. rw (put-bit rows x y hx hy (omega arith) i j) (or-iff (same-iff {a = bit rows i j}) (and-iff (so-eq {m = i} {n = x}) (so-eq {m = j} {n = y})));
}

module _ (before : List ℕ) where
  pub added-same : (A B : Rel) (after : List ℕ) → ((x y : ℕ) → A x y ↔ B x y) → Widened before A after → Widened before B after
  added-same A B after q a = record {
    long = a.long;
    pairs = λ x y. (
      λ t. elim ((a.pairs x y).0 t) [ inl e ↦ inl e | inr b ↦ inr ((q x y).0 b) ],
      λ s. (a.pairs x y).1 (elim s [ inl e ↦ inl e | inr b ↦ inr ((q x y).1 b) ]),
    );
  }

  pub added-when : (A : Rel) (C : Type 0) (after : List ℕ) → C → Widened before A after → Widened before (λ x y. A x y × C) after
  added-when A C after c = added-same A (λ x y. A x y × C) after (λ x y. (λ a. (a, c), λ a. a.0))

  module _ (B : ℕ → Rel) where
    pub added_none : Widened before (Some 0 B) before
    added_none = record { long = refl; pairs = λ x y. (inl, λ s. elim s [ inl e ↦ e | inr b ↦ absurd (omega (arith, b.1)) ]) }

    pub added-turn : (n : ℕ) (now after : List ℕ) → Widened before (Some n B) now → Widened now (B n) after → Widened before (Some (n + 1) B) after
    added-turn n now after a b = record { long = b.long ∙ a.long; pairs = λ x y. (forth x y, back x y) }
      where
        forth : (x y : ℕ) → So (bit after x y) → Edges before x y ⊎ Some (n + 1) B x y
        forth x y t = elim ((b.pairs x y).0 t) [
          | inl e ↦ elim ((a.pairs x y).0 e) [ inl d ↦ inl d | inr (m, l, c) ↦ inr (m, omega arith, c) ]
          | inr c ↦ inr (n, omega arith, c)
        ]

        back : (x y : ℕ) → Edges before x y ⊎ Some (n + 1) B x y → So (bit after x y)
        back x y (inl e) = (b.pairs x y).1 (inl ((a.pairs x y).1 (inl e)))
        back x y (inr (m, l, c)) = elim (eq? m n) [
          | inl q ↦ (b.pairs x y).1 (inr (subst (λ (m : ℕ). B m x y) q c))
          | inr d ↦ (b.pairs x y).1 (inl ((a.pairs x y).1 (inr (m, omega arith, c))))
        ]

    pub added-skip : (n : ℕ) (now : List ℕ) → Widened before (Some n B) now → ((x y : ℕ) → B n x y → ⊥) → Widened before (Some (n + 1) B) now
    added-skip n now a d = added-turn n now now a record { long = refl; pairs = λ x y. (inl, λ s. elim s [ inl e ↦ e | inr b ↦ absurd (d x y b) ]) }

    pub added-far : (n k : ℕ) (now : List ℕ) → n ≤ k → Widened before (Some n B) now → ((m x y : ℕ) → n ≤ m → m < k → B m x y → ⊥) → Widened before (Some k B) now
    added-far n k now l a d = added-same (Some n B) (Some k B) now (λ x y. (
      λ s. (s.0, omega (arith, s.1), s.2),
      λ s. elim (dec_lt s.0 n) [ yes h ↦ (s.0, h, s.2) | no h ↦ absurd (d s.0 x y (omega arith) s.1 s.2) ],
    )) a

pub added-exactly : (n : ℕ) (A : Rel) (after : List ℕ) → Widened (empty_of n) A after → Exactly after A
added-exactly n A after a x y = (
  λ t. elim ((a.pairs x y).0 t) [ inl e ↦ absurd (false≢true (sym (empty-bit n x y) ∙ e)) | inr b ↦ b ],
  λ b. (a.pairs x y).1 (inr b),
)
