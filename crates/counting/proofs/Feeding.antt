-- The reads that are served once one more operation is placed.
--
--   fed-of == what its rows leave of the set and give to it
use mathlib.Core.Path.{◌≡◌, refl, ◌∙◌}
use mathlib.Core.Logic.{◌↔◌, ◌⊎◌, inl, inr}
use mathlib.Core.Bool.{So, not, ◌&&◌, ◌||◌}
use mathlib.Core.List.{List}
use Prim.Native.Nat.{ℕ}
use native.Mathlib.Omega.{arith}
use lib.ListN.{length}
use Rattle.laws.proofs.Tests.{and-iff, or-iff, not_iff, same-iff}
use Rattle.rows.specs.Bounds.{WORDS}
use Rattle.rows.specs.Rows.{bit, Words}
use Rattle.rows.specs.AddRow.{add_row_of}
use Rattle.rows.specs.DropRow.{drop_row_of}
use Rattle.rows.proofs.Closing.{row-added}
use Rattle.rows.proofs.Dropping.{drop-long, row-dropped}
use Rattle.counting.specs.inner.NextTests.{feeds, Fed}

pub fed-of : (fed rivals placed served : List ℕ) (y : ℕ) → Words fed → length served ≡ WORDS
    → Fed fed rivals placed served y (drop_row_of placed 0 (add_row_of fed y (drop_row_of rivals y served 0) 0) 0)
unfolding feeds
fed-of fed rivals placed served y words l = record { long = drop-long placed 0 b 0 (omega arith) (omega (arith, lb)) ∙ lb; has = λ c. (there c, back c) }
  where
    a : List ℕ
    a = drop_row_of rivals y served 0

    la : length a ≡ WORDS
    la = drop-long rivals y served 0 (omega arith) (omega (arith, l)) ∙ l

    b : List ℕ
    b = add_row_of fed y a 0

    lb : length b ≡ WORDS
    lb = (row-added fed words y a 0 (omega arith) (omega (arith, la))).long ∙ la

    is : (c : ℕ) → So ((bit fed y c || (bit served 0 c && not (bit rivals y c))) && not (bit placed 0 c)) ↔ ((So (bit fed y c) ⊎ (So (bit served 0 c) × (So (bit rivals y c) → ⊥))) × (So (bit placed 0 c) → ⊥))
    is c = and-iff (or-iff (same-iff {a = bit fed y c}) (and-iff (same-iff {a = bit served 0 c}) (not_iff (same-iff {a = bit rivals y c})))) (not_iff (same-iff {a = bit placed 0 c}))

    there : (c : ℕ) → So (bit (drop_row_of placed 0 b 0) 0 c) → So ((bit fed y c || (bit served 0 c && not (bit rivals y c))) && not (bit placed 0 c))
    there c t =
        let (u, v) = (row-dropped placed 0 b 0 (omega arith) (omega (arith, lb)) 0 c).0 t in
        let w = ((row-added fed words y a 0 (omega arith) (omega (arith, la))).pairs 0 c).0 u in
        (is c).1 (elim w [ inl r ↦ let z = (row-dropped rivals y served 0 (omega arith) (omega (arith, l)) 0 c).0 r in inr (z.0, λ k. z.1 (refl, k)) | inr r ↦ inl r.1 ], λ k. v (refl, k))

    back : (c : ℕ) → So ((bit fed y c || (bit served 0 c && not (bit rivals y c))) && not (bit placed 0 c)) → So (bit (drop_row_of placed 0 b 0) 0 c)
    back c t =
        let (u, v) = (is c).0 t in
        (row-dropped placed 0 b 0 (omega arith) (omega (arith, lb)) 0 c).1 (
          ((row-added fed words y a 0 (omega arith) (omega (arith, la))).pairs 0 c).1
              (elim u [ inl r ↦ inr (refl, r) | inr r ↦ inl ((row-dropped rivals y served 0 (omega arith) (omega (arith, l)) 0 c).1 (r.0, λ k. r.1 k.1)) ]),
          λ k. v k.1,
        )
