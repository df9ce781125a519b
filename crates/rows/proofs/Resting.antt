-- What is left of a row.
--
--   rest-long, rest-words == it is one row, of words
--   rest_has              == what the one row has and the other has not
use mathlib.Core.Path.{◌≡◌, refl, sym, ◌∙◌}
use mathlib.Core.Logic.{◌↔◌, inl, inr}
use mathlib.Core.Bool.{So, false≢true}
use mathlib.Core.List.{List}
use Prim.Native.Nat.{ℕ}
use native.Mathlib.Omega.{arith}
use lib.ListN.{length}
use Rattle.rows.specs.Bounds.{WORDS}
use Rattle.rows.specs.Rows.{bit, Edges, Words}
use Rattle.rows.specs.Empty.{empty_of}
use Rattle.rows.specs.AddRow.{add_row_of}
use Rattle.rows.specs.Rest.{rest_of}
use Rattle.rows.specs.inner.AddedPairs.{Added}
use Rattle.rows.proofs.Whole.{empty-bit, empty-long, empty-words}
use Rattle.rows.proofs.Closing.{row-added}
use Rattle.rows.proofs.Dropping.{drop-long, drop-words, row-dropped}

module _ (from : List ℕ) (words : Words from) (x : ℕ) (out : List ℕ) (y : ℕ) where
  given : Added (empty_of WORDS) (λ i j. (i ≡ 0) × Edges from x j) (add_row_of from x (empty_of WORDS) 0)
  given = let g = row-added from words x (empty_of WORDS) 0 (omega arith) (omega (arith, empty-long WORDS)) in record { long = g.long; words = g.words; pairs = g.pairs }

  pub rest-long : length (rest_of from x out y) ≡ WORDS
  unfolding rest_of
  rest-long = drop-long out y (add_row_of from x (empty_of WORDS) 0) 0 (omega arith) (omega (arith, given.long, empty-long WORDS)) ∙ given.long ∙ empty-long WORDS

  pub rest-words : Words out → Words (rest_of from x out y)
  unfolding rest_of
  rest-words w = drop-words out w y (add_row_of from x (empty_of WORDS) 0) (given.words (empty-words WORDS)) 0

  pub rest_has : (z : ℕ) → So (bit (rest_of from x out y) 0 z) ↔ (So (bit from x z) × (So (bit out y z) → ⊥))
  unfolding rest_of
  rest_has z =
      let d = row-dropped out y (add_row_of from x (empty_of WORDS) 0) 0 (omega arith) (omega (arith, given.long, empty-long WORDS)) 0 z in (
        λ s. let r = d.0 s in (elim ((given.pairs 0 z).0 r.0) [ inl v ↦ absurd (false≢true (sym (empty-bit WORDS 0 z) ∙ v)) | inr v ↦ v.1 ], λ o. r.1 (refl, o)),
        λ r. d.1 ((given.pairs 0 z).1 (inr (refl, r.0)), λ g. r.1 g.1),
      )
