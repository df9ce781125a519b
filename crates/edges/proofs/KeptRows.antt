-- The kept pairs of a trace as rows.
--
--   kept-drawn, kept-undrawn == rows that were drawn, and rows that were not
--   kept-lent                == lent to the trace, they are the kept pairs
--   kept-rows-one            == no second rows fit
use mathlib.Core.Path.{◌≡◌, refl, sym, ◌∙◌}
use mathlib.Core.Bool.{So}
use mathlib.Core.List.{List}
use Prim.Native.Nat.{ℕ, ◌≤◌}
use native.Mathlib.Decide.{dec_le}
use native.Mathlib.Omega.{arith}
use Rattle.laws.proofs.Tests.{off, same-iff, test-one}
use Rattle.trace.specs.Bounds.{RECORDS}
use Rattle.trace.specs.declared.Trace.{Trace}
use Rattle.rows.specs.Bounds.{CELLS}
use Rattle.rows.specs.Empty.{empty_of}
use Rattle.rows.specs.Lent.{lent_of}
use Rattle.rows.specs.inner.AddedPairs.{Added}
use Rattle.rows.proofs.Whole.{empty-bit, empty-long, empty-words, rows-one}
use Rattle.rows.proofs.Lent.{lent-iff}
use Rattle.pairs.specs.Kept.{modelled, kept_of}
use Rattle.pairs.proofs.KeptPairs.{modelled-iff, kept-of-iff, kept-joins}
use Rattle.edges.specs.KeptRows.{KeptRows}
use Rattle.edges.proofs.LaterRecords.{from_empty}

module _ (t : Trace) (m : ℕ) where
  pub kept-drawn : (r : List ℕ) → t.len ≤ RECORDS → Added (empty_of CELLS) (λ x y. So (kept_of m t x y)) r → KeptRows t m r
  kept-drawn r l a = record {
    full = record { long = a.long ∙ empty-long CELLS; words = a.words (empty-words CELLS) };
    has = λ _ x y. test-one {A = So (kept_of m t x y)} (from_empty CELLS (λ x y. So (kept_of m t x y)) r a x y) same-iff;
    none = λ n. absurd (omega arith);
  }

  -- a model that does not exist keeps nothing
  pub kept-undrawn : (t.len ≤ RECORDS → So (modelled m) → ⊥) → KeptRows t m (empty_of CELLS)
  kept-undrawn n = record {
    full = record { long = empty-long CELLS; words = empty-words CELLS };
    has = λ l x y. empty-bit CELLS x y ∙ sym (off (λ s. n l ((modelled-iff m).1 ((kept-of-iff t x y m).0 s).0.1)));
    none = λ _. refl;
  }

  pub kept-lent : (r : List ℕ) → t.len ≤ RECORDS → KeptRows t m r → lent_of t r ≡ kept_of m t
  kept-lent r l k = λ i x y. same x y i
    where
      same : (x y : ℕ) → lent_of t r x y ≡ kept_of m t x y
      same x y = test-one {A = So (kept_of m t x y)} (
        λ s. sym (k.has l x y) ∙ ((lent-iff t r x y).0 s).1,
        λ s. (lent-iff t r x y).1 (kept-joins m t x y s, k.has l x y ∙ s),
      ) same-iff

  pub kept-rows-one : (r s : List ℕ) → KeptRows t m r → KeptRows t m s → r ≡ s
  kept-rows-one r s p q = elim (dec_le t.len RECORDS) [
    | yes l ↦ rows-one r s p.full.long q.full.long p.full.words q.full.words (λ x y. p.has l x y ∙ sym (q.has l x y))
    | no n ↦ p.none (omega arith) ∙ sym (q.none (omega arith))
  ]
