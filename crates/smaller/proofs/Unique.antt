-- No second answer meets the contract of a public function.
--
--   told-one        == two answers that are both as promised are one
--   smaller-settles == the contract settles what the function gives back
use mathlib.Core.Path.{◌≡◌, sym, ap, ◌∙◌, subst}
use mathlib.Core.Logic.{inl, inr}
use Prim.Native.Nat.{ℕ}
use Rattle.laws.specs.Settles.{Settles}
use Rattle.laws.proofs.Tests.{test}
use Rattle.trace.specs.Meaning.{frame_of}
use Rattle.trace.specs.WellFormed.{well_formed}
use Rattle.trace.specs.declared.Trace.{Trace}
use Rattle.pairs.specs.Kept.{modelled, kept_of}
use Rattle.parts.proofs.Looks.{left_one}
use Rattle.rules.specs.Verdict.{Verdict, no_source, circle, order, none_left}
use Rattle.rules.proofs.Says.{verdict-one}
use Rattle.smaller.specs.Smaller.{leaving, Cuts, By, ToldSmaller}
use Rattle.smaller.specs.declared.Smaller.{Smaller}
use Rattle.smaller.proofs.cut.smaller.Reads as smaller
use Rattle.smaller.proofs.cut.smaller.Kinds as smaller-kinds

module _ (t : Trace) (m : ℕ) (a b : Smaller) where
  cuts-one : Cuts t m a → Cuts t m b → a ≡ b
  cuts-one (A, p, d) (B, q, e) = d ∙ ap (leaving t) (left_one t m A B p q) ∙ sym e

  by_one : (v : Verdict) → By t m v a → By t m v b → a ≡ b
  by_one (no_source x) p q = p ∙ sym q
  by_one (circle c rs) p q = cuts-one p q
  by_one (order xs) p q = p ∙ sym q
  by_one none_left p q = cuts-one p q

  pub told-one : ToldSmaller t m a → ToldSmaller t m b → a ≡ b
  told-one p q = elim (test (modelled m)) [
    | inr e ↦ p.nine e ∙ sym (q.nine e)
    | inl k ↦ elim (test (well_formed t)) [
      | inr e ↦ p.ten k e ∙ sym (q.ten k e)
      | inl w ↦
          let (v, s, x) = p.says k w in
          let (u, r, y) = q.says k w in
          by_one v x (subst (λ (v : Verdict). By t m v b) (verdict-one (frame_of t) (kept_of m t) u v r s) y)
    ]
  ]

pub smaller-settles : Settles 0 smaller-kinds.ps smaller-kinds.r smaller.Post
smaller-settles κs a x y s t p q = told-one a.0 a.1.0 x y p q
