-- What the limited verdict owes, in the request's words: each law speaks of any r that is as promised, which is what the function hands back.
--
--   undecided-exactly == on a question that is answered, undecided comes exactly where the count of the full verdict passes the limit, and the limit is its count
--   decided-full      == a verdict that comes is the full entry's, with its operations and rules
--   more-steps        == more steps never change a verdict already given, nor its count
use mathlib.Core.Path.{◌≡◌, sym, ap, ◌∙◌}
use mathlib.Core.Logic.{◌↔◌, inl, inr}
use mathlib.Core.Bool.{So}
use Prim.Native.Nat.{ℕ, ◌≤◌, ◌<◌}
use native.Mathlib.Omega.{arith}
use Rattle.laws.proofs.Tests.{test}
use Rattle.trace.specs.Meaning.{frame_of}
use Rattle.trace.specs.WellFormed.{well_formed}
use Rattle.trace.specs.declared.Trace.{Trace}
use Rattle.pairs.specs.Kept.{modelled, kept_of}
use Rattle.rules.specs.Verdict as said
use Rattle.rules.proofs.Says.{verdict-one}
use Rattle.verdict.specs.VerdictOf as full
use Rattle.verdict.specs.declared.Outcome.{Outcome}
use Rattle.verdict.specs.declared.Verdict.{Verdict}
use Rattle.plain.specs.Limited.{Limited, decided, undecided, counted, Limits}
use Rattle.plain.proofs.Limited.{limits-one, limits-more}
use Rattle.limited.specs.LimitedVerdict.{of, laid_limit, ToldLimited}
use Rattle.limited.specs.declared.Limited.TheVariants.{Decided, Undecided}
use Rattle.limited.specs.declared.Limit.{Limit}

module _ (t : Trace) (m : ℕ) where
  pub undecided-exactly : So (modelled m) → So (well_formed t) → (l : ℕ) (r : Limit) → ToldLimited t m l r → (v : said.Verdict) → said.Says (frame_of t) (kept_of m t) v
      → ((r.outcome ≡ Undecided) ↔ (l < counted (frame_of t) (kept_of m t) v)) × (r.outcome ≡ Undecided → r.steps ≡ l)
  undecided-exactly k w l r h v s = let (a, p, e) = h.says k w in go a p e
    where
      go : (a : Limited) → Limits (frame_of t) (kept_of m t) l a → r ≡ laid_limit a → ((r.outcome ≡ Undecided) ↔ (l < counted (frame_of t) (kept_of m t) v)) × (r.outcome ≡ Undecided → r.steps ≡ l)
      go (decided u n) (q, i, j) e = (
        (
          λ o. absurd (let x = ap (λ (r : Limit). r.outcome) e in let z : ◌≡◌ {A = ℕ} 0 1 = cc in omega arith),
          λ g. absurd (omega (arith, i, j, g, ap (counted (frame_of t) (kept_of m t)) (verdict-one (frame_of t) (kept_of m t) u v q s))),
        ),
        λ o. absurd (let x = ap (λ (r : Limit). r.outcome) e in let z : ◌≡◌ {A = ℕ} 0 1 = cc in omega arith),
      )
      go (undecided n) (i, j) e = ((λ _. j v s, λ _. ap (λ (r : Limit). r.outcome) e), λ _. ap (λ (r : Limit). r.steps) e ∙ i)

  pub decided-full : (l : ℕ) (r : Limit) → ToldLimited t m l r → (o : Outcome) → r.outcome ≡ Decided o → (v : Verdict) → full.Told t m v → r ≡ of v r.steps
  decided-full l r h o d v g = elim (test (modelled m)) [
    | inr e ↦ let x = h.nine e in x ∙ ap (λ (v : Verdict). of v 0) (sym (g.nine e)) ∙ ap (of v) (sym (ap (λ (r : Limit). r.steps) x))
    | inl k ↦ elim (test (well_formed t)) [
      | inr e ↦ let x = h.ten k e in x ∙ ap (λ (v : Verdict). of v 0) (sym (g.ten k e)) ∙ ap (of v) (sym (ap (λ (r : Limit). r.steps) x))
      | inl w ↦ let (a, p, e) = h.says k w in let (u, s, b) = g.says k w in go a p e u s b
    ]
  ]
    where
      go : (a : Limited) → Limits (frame_of t) (kept_of m t) l a → r ≡ laid_limit a → (u : said.Verdict) → said.Says (frame_of t) (kept_of m t) u → v ≡ full.laid u → r ≡ of v r.steps
      go (decided w n) (q, i, j) e u s b =
          e ∙ ap (λ (x : said.Verdict). of (full.laid x) n) (verdict-one (frame_of t) (kept_of m t) w u q s) ∙ ap (λ (v : Verdict). of v n) (sym b) ∙ ap (of v) (sym (ap (λ (r : Limit). r.steps) e))
      go (undecided n) p e u s b = absurd (let x = ap (λ (r : Limit). r.outcome) e in let z : ◌≡◌ {A = ℕ} 0 1 = cc in omega arith)

  pub more-steps : (l l' : ℕ) → l ≤ l' → (r r' : Limit) → ToldLimited t m l r → ToldLimited t m l' r' → (o : Outcome) → r.outcome ≡ Decided o → r' ≡ r
  more-steps l l' i r r' h h' o d = elim (test (modelled m)) [
    | inr e ↦ h'.nine e ∙ sym (h.nine e)
    | inl k ↦ elim (test (well_formed t)) [
      | inr e ↦ h'.ten k e ∙ sym (h.ten k e)
      | inl w ↦ let (a, p, e) = h.says k w in let (b, q, j) = h'.says k w in go a p e b q j
    ]
  ]
    where
      go : (a : Limited) → Limits (frame_of t) (kept_of m t) l a → r ≡ laid_limit a → (b : Limited) → Limits (frame_of t) (kept_of m t) l' b → r' ≡ laid_limit b → r' ≡ r
      go (decided v n) p e b q j = j ∙ ap laid_limit (limits-one (frame_of t) (kept_of m t) l' b (decided v n) q (limits-more (frame_of t) (kept_of m t) l l' i v n p)) ∙ sym e
      go (undecided n) p e b q j = absurd (let x = ap (λ (r : Limit). r.outcome) e in let z : ◌≡◌ {A = ℕ} 0 1 = cc in omega arith)
