-- No second answer meets the contract of a public function.
--
--   told-one, told-by-one                  == two verdicts that are both as promised are one
--   verdict-of-settles, verdict-by-settles == the contract settles what the function gives back
use mathlib.Core.Path.{◌≡◌, sym, ap, ◌∙◌}
use mathlib.Core.Logic.{inl, inr}
use mathlib.Core.Bool.{So}
use Prim.Native.Nat.{ℕ}
use Rattle.laws.specs.Relation.{Table}
use Rattle.laws.specs.Settles.{Settles}
use Rattle.laws.proofs.Tests.{test}
use Rattle.trace.specs.Meaning.{frame_of}
use Rattle.trace.specs.WellFormed.{well_formed}
use Rattle.trace.specs.declared.Trace.{Trace}
use Rattle.rows.specs.Lent.{lent_of}
use Rattle.pairs.specs.Kept.{modelled, kept_of}
use Rattle.rules.proofs.Says.{verdict-one}
use Rattle.verdict.specs.VerdictOf.{laid, ToldBy, Told}
use Rattle.verdict.specs.declared.Verdict.{Verdict}
use Rattle.verdict.proofs.tell.verdict_of.Reads as verdict-of
use Rattle.verdict.proofs.tell.verdict_of.Kinds as verdict-of-kinds
use Rattle.verdict.proofs.tell.verdict_by.Reads as verdict-by
use Rattle.verdict.proofs.tell.verdict_by.Kinds as verdict-by-kinds

pub told-by-one : (t : Trace) (K : Table) (a b : Verdict) → ToldBy t K a → ToldBy t K b → a ≡ b
told-by-one t K a b p q = elim (test (well_formed t)) [
  | inr e ↦ p.ten e ∙ sym (q.ten e)
  | inl w ↦
      let (v, s, d) = p.says w in
      let (u, r, e) = q.says w in
      d ∙ ap laid (verdict-one (frame_of t) K v u s r) ∙ sym e
]

pub told-one : (t : Trace) (m : ℕ) (a b : Verdict) → Told t m a → Told t m b → a ≡ b
told-one t m a b p q = elim (test (modelled m)) [ inr e ↦ p.nine e ∙ sym (q.nine e) | inl k ↦ told-by-one t (kept_of m t) a b (of k p) (of k q) ]
  where
    of : {r : Verdict} → So (modelled m) → Told t m r → ToldBy t (kept_of m t) r
    of k p = record { ten = p.ten k; says = p.says k; fits = p.fits }

pub verdict-of-settles : Settles 0 verdict-of-kinds.ps verdict-of-kinds.r verdict-of.Post
verdict-of-settles κs a x y s t p q = told-one a.0 a.1.0 x y p q

pub verdict-by-settles : Settles 1 verdict-by-kinds.ps verdict-by-kinds.r verdict-by.Post
verdict-by-settles κs a x y s t p q = told-by-one a.0 (lent_of a.0 a.1.0.now) x y p q
