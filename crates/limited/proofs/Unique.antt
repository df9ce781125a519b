-- No second answer meets the contract of a public function.
--
--   told-one                == two answers that are both as promised are one
--   limited-verdict-settles == the contract settles what the function gives back
use mathlib.Core.Path.{◌≡◌, sym, ap, ◌∙◌}
use mathlib.Core.Logic.{inl, inr}
use Prim.Native.Nat.{ℕ}
use Rattle.laws.specs.Settles.{Settles}
use Rattle.laws.proofs.Tests.{test}
use Rattle.trace.specs.Meaning.{frame_of}
use Rattle.trace.specs.WellFormed.{well_formed}
use Rattle.trace.specs.declared.Trace.{Trace}
use Rattle.pairs.specs.Kept.{modelled, kept_of}
use Rattle.plain.proofs.Limited.{limits-one}
use Rattle.limited.specs.LimitedVerdict.{laid_limit, ToldLimited}
use Rattle.limited.specs.declared.Limit.{Limit}
use Rattle.limited.proofs.tell.limited_verdict.Reads as limited-verdict
use Rattle.limited.proofs.tell.limited_verdict.Kinds as limited-verdict-kinds

pub told-one : (t : Trace) (m l : ℕ) (a b : Limit) → ToldLimited t m l a → ToldLimited t m l b → a ≡ b
told-one t m l a b p q = elim (test (modelled m)) [
  | inr e ↦ p.nine e ∙ sym (q.nine e)
  | inl k ↦ elim (test (well_formed t)) [
    | inr e ↦ p.ten k e ∙ sym (q.ten k e)
    | inl w ↦
        let (v, s, d) = p.says k w in
        let (u, r, e) = q.says k w in
        d ∙ ap laid_limit (limits-one (frame_of t) (kept_of m t) l v u s r) ∙ sym e
  ]
]

pub limited-verdict-settles : Settles 0 limited-verdict-kinds.ps limited-verdict-kinds.r limited-verdict.Post
limited-verdict-settles κs a x y s t p q = told-one a.0 a.1.0 a.1.1.0 x y p q
