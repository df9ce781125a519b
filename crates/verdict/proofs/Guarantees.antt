-- What the verdict owes: each law speaks of any r that is as promised, which is what the function hands back.
--
--   nine, ten     == a question is turned back exactly in its case, 9 before 10
--   order-first   == an order is handed back exactly where a valid one exists, and every other one is later; otherwise none exists
--   circle-none   == where a circle is shown, there is no valid order
--   judged-yes    == what is handed back is what the judge says yes to
--   starred-told  == the verdicts on the starred traces and KNOT
use mathlib.Core.Path.{◌≡◌, refl, sym, ap, ◌∙◌, subst}
use mathlib.Core.Logic.{◌⊎◌, inl, inr, ◌↔◌}
use mathlib.Core.Bool.{false, So, false≢true}
use mathlib.Core.List.{List, [], ◌∷◌, Memᴰ}
use mathlib.Core.Option.{some}
use Prim.Native.Nat.{ℕ, zero, suc, ◌+◌, ◌-◌, ◌<◌, ◌≤◌}
use native.Mathlib.Omega.{arith}
use lib.ListN.{length, get_or, take, replicate}
use lib.Seq.{take-append_seam}
use Rattle.laws.specs.Dict.{Least}
use Rattle.laws.proofs.Tests.{test, and-iff, same-iff}
use Rattle.trace.specs.Bounds.{RECORDS}
use Rattle.trace.specs.Meaning.{frame_of}
use Rattle.trace.specs.WellFormed.{well_formed}
use Rattle.rules.specs.Order.{Valid}
use Rattle.trace.specs.declared.Trace.{Trace}
use Rattle.trace.proofs.Good.{good}
use Rattle.pairs.specs.Kept.{SC, MODELS, modelled, kept_of}
use Rattle.edges.specs.ForcedPairs.{answered}
use Rattle.pairs.proofs.KeptPairs.{modelled-iff}
use Rattle.rules.specs.Verdict as said
use Rattle.pairs.specs.Accepted.{Accepted}
use Rattle.pairs.specs.Starred.{trace_of, StarredCase, cases, Under}
use Rattle.rules.proofs.Says as owing
use Rattle.pairs.proofs.Starred.{starred}
use Rattle.verdict.specs.VerdictOf.{refused_by, laid, ordered_as, ordered, Told}
use Rattle.verdict.specs.declared.Outcome.{Outcome}
use Rattle.verdict.specs.declared.Outcome.TheVariants.{NoSource, Circle, Order, NoneLeft, NoModel, NotWellFormed}
use Rattle.verdict.specs.declared.Verdict.{Verdict}

-- a verdict that is laid turns nothing back
answers : (v : said.Verdict) → refused_by (laid v).outcome ≡ 0
answers (said.no_source x) = refl
answers (said.circle c rs) = refl
answers (said.order xs) = refl
answers said.none_left = refl

module _ (m : ℕ) (t : Trace) (r : Verdict) (told : Told t m r) where
  -- which is its number
  abbrev Numbered : ℕ → Type 0
  Numbered n = refused_by r.outcome ≡ n

  -- the verdict on a question that is answered
  said_of : So (answered m t) → (v : said.Verdict) × said.Says (frame_of t) (kept_of m t) v × (r ≡ laid v)
  said_of s = let (w, k) = (and-iff (same-iff {a = well_formed t}) (same-iff {a = modelled m})).0 s in told.says k w

  -- the three ways in which a question is answered
  answered-by : ((modelled m ≡ false) × Numbered 9) ⊎ ((So (modelled m) × (well_formed t ≡ false) × Numbered 10) ⊎ (So (modelled m) × So (well_formed t) × Numbered 0))
  answered-by = elim (test (modelled m)) [
    | inr e ↦ inl (e, ap (λ (r : Verdict). refused_by r.outcome) (told.nine e))
    | inl k ↦ elim (test (well_formed t)) [
      | inr e ↦ inr (inl (k, e, ap (λ (r : Verdict). refused_by r.outcome) (told.ten k e)))
      | inl w ↦
          let (v, q, e) = told.says k w in
          inr (inr (k, w, ap (λ (r : Verdict). refused_by r.outcome) e ∙ answers v))
    ]
  ]

  pub nine : Numbered 9 ↔ (modelled m ≡ false)
  nine = elim answered-by [
    | inl (e, n) ↦ (λ _. e, λ _. n)
    | inr (inl (k, e, n)) ↦ (λ x. absurd (omega (arith, x, n)), λ f. absurd (false≢true (sym f ∙ k)))
    | inr (inr (k, w, n)) ↦ (λ x. absurd (omega (arith, x, n)), λ f. absurd (false≢true (sym f ∙ k)))
  ]

  pub ten : Numbered 10 ↔ (So (modelled m) × (well_formed t ≡ false))
  ten = elim answered-by [
    | inl (e, n) ↦ (λ x. absurd (omega (arith, x, n)), λ f. absurd (false≢true (sym e ∙ f.0)))
    | inr (inl (k, e, n)) ↦ (λ _. (k, e), λ _. n)
    | inr (inr (k, w, n)) ↦ (λ x. absurd (omega (arith, x, n)), λ f. absurd (false≢true (sym f.1 ∙ w)))
  ]

  -- the order of a verdict that is laid
  least : So (well_formed t) → (v : said.Verdict) → said.Says (frame_of t) (kept_of m t) v → Least (Valid (frame_of t) (kept_of m t)) (ordered (laid v))
  least w (said.no_source x) s = owing.missing-none (frame_of t) (kept_of m t) x s.0
  least w (said.circle c rs) s = owing.circle-none (frame_of t) (kept_of m t) (good t w) (c, rs) s.1
  least w (said.order xs) s =
      subst (λ (ys : List ℕ). Least (Valid (frame_of t) (kept_of m t)) (some ys)) (sym (take-append_seam xs (replicate (RECORDS - length xs) 0))) s.2
  least w said.none_left s = s.2

  pub order-first : So (answered m t) → Least (Valid (frame_of t) (kept_of m t)) (ordered r)
  order-first s =
      let (v, q, e) = said_of s in
      subst (λ (r : Verdict). Least (Valid (frame_of t) (kept_of m t)) (ordered r)) (sym e) (least ((and-iff (same-iff {a = well_formed t}) (same-iff {a = modelled m})).0 s).0 v q)

  -- where an order is handed back or a circle is shown, there was something to answer
  asked : refused_by r.outcome ≡ 0 → So (answered m t)
  asked z = elim answered-by [
    | inl (e, n) ↦ absurd (omega (arith, z, n))
    | inr (inl (k, e, n)) ↦ absurd (omega (arith, z, n))
    | inr (inr (k, w, n)) ↦ (and-iff (same-iff {a = well_formed t}) (same-iff {a = modelled m})).1 (w, k)
  ]

  pub circle-none : r.outcome ≡ Circle → (xs : List ℕ) → Valid (frame_of t) (kept_of m t) xs → ⊥
  circle-none e =
      subst (λ (o : Outcome). Least (Valid (frame_of t) (kept_of m t)) (ordered_as o (take r.len r.operations))) e (order-first (asked (ap refused_by e)))

  -- an order is handed back by the outcome of that name only
  by_order : (o : Outcome) (xs ys : List ℕ) → ordered_as o xs ≡ some ys → refused_by o ≡ 0
  by_order (NoSource x) xs ys e = refl
  by_order Circle xs ys e = refl
  by_order Order xs ys e = refl
  by_order NoneLeft xs ys e = refl
  by_order NoModel xs ys e = let z : ◌≡◌ {A = ℕ} 0 1 = cc in absurd (omega arith)
  by_order NotWellFormed xs ys e = let z : ◌≡◌ {A = ℕ} 0 1 = cc in absurd (omega arith)

  pub judged-yes : (xs : List ℕ) → ordered r ≡ some xs → Accepted t m xs
  judged-yes xs e =
      let s = asked (by_order r.outcome (take r.len r.operations) xs e) in
      let (w, k) = (and-iff (same-iff {a = well_formed t}) (same-iff {a = modelled m})).0 s in
      record { well = w; model = k; valid = (subst (Least (Valid (frame_of t) (kept_of m t))) e (order-first s)).0 }

-- a verdict that is allowed is the one that is told
told-as : (m : ℕ) (t : Trace) → So (modelled m) → So (well_formed t) → (v : said.Verdict) → said.Says (frame_of t) (kept_of m t) v → (r : Verdict) → Told t m r → r ≡ laid v
told-as m t k w v s r h = let (u, q, e) = h.says k w in e ∙ ap laid (owing.verdict-one (frame_of t) (kept_of m t) u v q s)

pub starred-told : (c : StarredCase) → Memᴰ c cases → (i : ℕ) → i < MODELS → (r : Verdict) → Told (trace_of c.ops) (SC + i) r → r ≡ laid (get_or c.verdicts i said.none_left)
starred-told c h i l = let s = starred c h in from SC c.verdicts s.under (omega arith) (omega (arith, s.every)) i (omega (arith, s.every)) (SC + i) refl
  where
    from :
        (m : ℕ) (vs : List said.Verdict) → Under (trace_of c.ops) m vs → 0 < m → m + length vs ≤ suc MODELS → (i : ℕ) → i < length vs → (k : ℕ) → k ≡ m + i → (r : Verdict)
        → Told (trace_of c.ops) k r → r ≡ laid (get_or vs i said.none_left)
    from m [] u p b i l k e r q = absurd (omega arith)
    from m (v ∷ vs) u p b zero l k e r q =
        let same : k ≡ m = omega arith in
        told-as m (trace_of c.ops) ((modelled-iff m).1 (p, omega arith)) (starred c h).well v u.0 r (subst (λ (k : ℕ). Told (trace_of c.ops) k r) same q)
    from m (v ∷ vs) u p b (suc i) l k e r q = from (suc m) vs u.1 (omega arith) (omega arith) i (omega arith) k (omega arith) r q
