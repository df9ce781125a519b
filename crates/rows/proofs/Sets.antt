-- Sets of record numbers, each one row.
--
--   put-more                == a number put into a set
--   more-holds              == the set of a list, and of the list with one number more
--   empty_holds, empty-only == the set of no number is that of the empty list, and of no other
use mathlib.Core.Path.{◌≡◌, refl, sym, ◌∙◌}
use mathlib.Core.Logic.{inl, inr}
use mathlib.Core.Bool.{false≢true}
use mathlib.Core.List.{List, [], ◌∷◌, ◌++◌}
use Prim.Native.Nat.{ℕ, ◌<◌}
use native.Mathlib.Nat.{not-suc-le-zero}
use native.Mathlib.Omega.{arith}
use lib.ListN.{length}
use Rattle.laws.specs.Places.{count}
use Rattle.laws.proofs.Tests.{eq?}
use Rattle.laws.proofs.Places.{count-here, count-later}
use Rattle.laws.proofs.Counts.{count-append}
use Rattle.trace.specs.Bounds.{RECORDS}
use Rattle.rows.specs.Bounds.{WORDS}
use Rattle.rows.specs.Empty.{empty_of}
use Rattle.rows.specs.Put.{put_of}
use Rattle.rows.proofs.Rows.{row-full}
use Rattle.rows.proofs.Pair.{put_in, put-long, mark-iff}
use Rattle.rows.proofs.Whole.{empty-bit}
use Rattle.rows.specs.inner.Sets.{Holds, More}

pub put-more : (set : List ℕ) (y : ℕ) → length set ≡ WORDS → y < RECORDS → More set y (put_of set 0 y)
put-more set y l h = record {
  long = put-long set 0 y ∙ l;
  has = λ x.
      let i = mark-iff set 0 y (omega arith) h (omega (arith, row-full)) 0 x in
      rw (put_in set 0 y (omega arith) h) (
        λ t. elim (i.0 t) [ inl e ↦ inl e | inr e ↦ inr e.1 ],
        λ t. i.1 (elim t [ inl e ↦ inl e | inr e ↦ inr (refl, e) ]),
      );
}

pub more-holds : (set p : List ℕ) (y : ℕ) (next : List ℕ) → Holds set p → More set y next → Holds next (p ++ (y ∷ []))
unfolding count
more-holds set p y next h m x = (
  λ t. elim ((m.has x).0 t) [
    | inl e ↦ omega (arith, count-append x p (y ∷ []), (h x).0 e)
    | inr e ↦ omega (arith, count-append x p (y ∷ []), count-here x y [] e)
  ],
  λ c. (m.has x).1 (elim (eq? x y) [ inl e ↦ inr e | inr d ↦ inl ((h x).1 (later c d)) ]),
)
  where
    later : 0 < count x (p ++ (y ∷ [])) → (x ≡ y → ⊥) → 0 < count x p
    later c d = omega (arith, count-append x p (y ∷ []), count-later x y [] d)

pub empty_holds : (n : ℕ) → Holds (empty_of n) []
unfolding count
empty_holds n x = (λ t. absurd (false≢true (sym (empty-bit n 0 x) ∙ t)), λ c. absurd (not-suc-le-zero c))

pub empty-only : (n : ℕ) (p : List ℕ) → Holds (empty_of n) p → 0 < length p → ⊥
empty-only n [] h l = not-suc-le-zero l
empty-only n (x ∷ p) h l = false≢true (sym (empty-bit n 0 x) ∙ (h x).1 (omega (arith, count-here x x p refl)))
