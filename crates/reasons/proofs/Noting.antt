-- Who is read from, as a set.
--
--   NotedBelow f n read == the set has whom the records below n read from
--   noted-none, noted_more, noted-all == none, one record more, all of them
use mathlib.Core.Path.{◌≡◌, sym, ap, ◌∙◌}
use mathlib.Core.Logic.{◌⊎◌, inl, inr}
use mathlib.Core.Bool.{So}
use mathlib.Core.List.{List}
use Prim.Native.Nat.{ℕ, ◌+◌, ◌<◌}
use native.Mathlib.Decide.{dec_lt}
use native.Mathlib.Omega.{arith}
use lib.Dec.{eqb}
use lib.ListN.{length}
use Rattle.laws.specs.Tests.{any}
use Rattle.laws.proofs.Tests.{so-any, so-eq, test-one, same-iff}
use Rattle.trace.specs.Bounds.{RECORDS}
use Rattle.rules.specs.Frame.{Frame}
use Rattle.rows.specs.Bounds.{WORDS}
use Rattle.rows.specs.Rows.{bit}
use Rattle.rows.specs.Put.{put_of}
use Rattle.rows.specs.Empty.{empty_of}
use Rattle.rows.proofs.Pair.{put_right}
use Rattle.rows.proofs.Sets.{put-more}
use Rattle.rows.proofs.Whole.{empty-bit}
use Rattle.pairs.specs.SourceOf.{source_of}
use Rattle.reasons.specs.Writing.{read_from}
use Rattle.reasons.specs.inner.Choice.{ReadRow}

module _ (f : Frame) where
  abbrev pub NotedBelow : ℕ → List ℕ → Type 0
  NotedBelow n read = (x : ℕ) → x < RECORDS → bit read 0 x ≡ any n (λ L. eqb (source_of f L) x)

  pub noted-none : (n : ℕ) → NotedBelow 0 (empty_of n)
  unfolding any
  noted-none n x h = empty-bit n 0 x

  pub noted_more : (n : ℕ) (read : List ℕ) (s : ℕ) → length read ≡ WORDS → NotedBelow n read → s ≡ source_of f n → NotedBelow (n + 1) (put_of read 0 s)
  noted_more n read s l inv e x h = test-one {A = So (any (n + 1) (λ L. eqb (source_of f L) x))} (elim (dec_lt s RECORDS) [
    | yes b ↦ let i = (put-more read s l b).has x in (
      λ u. elim (i.0 u) [ inl v ↦ old v | inr q ↦ (so-any (n + 1) (λ L. eqb (source_of f L) x)).1 (n, omega arith, so-eq.1 (sym e ∙ sym q)) ],
      λ u. i.1 (elim (cases u) [ inl v ↦ inl (inv x h ∙ v) | inr q ↦ inr (sym q ∙ sym e) ]),
    )
    | no b ↦ let i : bit (put_of read 0 s) 0 x ≡ bit read 0 x = ap (λ r. bit r 0 x) (put_right read 0 s (omega arith)) in (
      λ u. old (sym i ∙ u),
      λ u. i ∙ elim (cases u) [ inl v ↦ inv x h ∙ v | inr q ↦ absurd (omega (arith, q, e)) ],
    )
  ]) same-iff
    where
      old : So (bit read 0 x) → So (any (n + 1) (λ L. eqb (source_of f L) x))
      old v = let r = (so-any n (λ L. eqb (source_of f L) x)).0 (sym (inv x h) ∙ v) in (so-any (n + 1) (λ L. eqb (source_of f L) x)).1 (r.0, omega (arith, r.1), r.2)

      cases : So (any (n + 1) (λ L. eqb (source_of f L) x)) → So (any n (λ L. eqb (source_of f L) x)) ⊎ (source_of f n ≡ x)
      cases u =
          let r = (so-any (n + 1) (λ L. eqb (source_of f L) x)).0 u in
          elim (dec_lt r.0 n) [
            | yes l ↦ inl ((so-any n (λ L. eqb (source_of f L) x)).1 (r.0, l, r.2))
            | no l ↦ let q : r.0 ≡ n = omega (arith, r.1) in inr (ap (source_of f) (sym q) ∙ so-eq.0 r.2)
          ]

  pub noted-all : (n : ℕ) (read : List ℕ) → n ≡ RECORDS → NotedBelow n read → ReadRow f read
  unfolding read_from
  noted-all n read q inv x h = inv x h ∙ ap (λ n. any n (λ L. eqb (source_of f L) x)) q
