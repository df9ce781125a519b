-- How the code comes to its answer.
--
--   told-model, told-form   == a question that is turned back
--   told-source, told-circle == a missing source and a circle: the full verdict, with count 0
--   told-order, told_none, told_over == what the plain search comes to
use mathlib.Core.Path.{◌≡◌, refl, sym, ap, ◌∙◌, subst}
use mathlib.Core.Bool.{Bool, true, false, So, cond, false≢true}
use mathlib.Core.List.{List, []}
use mathlib.Core.Option.{Option, none, some}
use Prim.Native.Nat.{ℕ, ◌≤◌, ◌<◌}
use native.Mathlib.Decide.{dec_lt}
use native.Mathlib.Omega.{arith}
use lib.Dec.{leb}
use lib.ListN.{length, replicate}
use Rattle.laws.specs.Lowest.{Lowest}
use Rattle.laws.specs.Dict.{Least}
use Rattle.laws.proofs.Tests.{and-iff, same-iff, so-le}
use Rattle.trace.specs.Bounds.{RECORDS}
use Rattle.rules.specs.Frame.{Frame}
use Rattle.trace.specs.Meaning.{frame_of}
use Rattle.trace.specs.WellFormed.{well_formed}
use Rattle.rules.specs.Order.{Valid}
use Rattle.trace.specs.declared.Trace.{Trace}
use Rattle.trace.proofs.Good.{good}
use Rattle.laws.specs.Relation.{Table}
use Rattle.rules.specs.Missing.{Missing, Sourced}
use Rattle.rules.specs.ShownCircle.{Circled}
use Rattle.pairs.specs.Kept.{modelled, kept_of}
use Rattle.edges.specs.ForcedPairs.{answered}
use Rattle.circle.specs.CircleOf.{ruled_of, CircleBy, CircleOf}
use Rattle.circle.specs.declared.show.Circle as ring
use Rattle.rules.specs.Verdict.{Verdict, no_source, circle, order, none_left, Says}
use Rattle.rules.specs.Ready.{operations}
use Rattle.pairs.specs.MissingOf.{record?, missing_of}
use Rattle.pairs.specs.Found.{Found}
use Rattle.std.specs.Prelude.{Some}
use Rattle.pairs.proofs.MissingOf.{missing-lowest}
use Rattle.pairs.proofs.ValidOrders.{well-fits, valid-short}
use Rattle.verdict.specs.VerdictOf as full
use Rattle.verdict.specs.declared.Outcome.TheVariants.{NoSource, Circle, Order, NoneLeft, NoModel, NotWellFormed}
use Rattle.verdict.specs.declared.Verdict as held
use Rattle.verdict.proofs.LaidOut as verdict
use Rattle.plain.specs.Plain.{plain, steps}
use Rattle.plain.specs.Limited.{Limited, decided, undecided, counted, Limits}
use Rattle.plain.proofs.Plain.{plain-first}
use Rattle.plain.proofs.Limited.{limits-exact}
use Rattle.plain.proofs.Models.{kept-orderly}
use Rattle.counting.specs.CountedAnswer.{counted_by, counted_of}
use Rattle.counting.specs.CountedAnswer as walk
use Rattle.counting.specs.declared.Walked.{Walked}
use Rattle.counting.specs.declared.Walked.TheVariants as walked
use Rattle.counting.specs.declared.Counted.{Counted}
use Rattle.limited.specs.LimitedVerdict.{bare_limit, of, laid_limit, ToldLimited}
use Rattle.limited.specs.declared.Limited.TheVariants.{Decided, Undecided}
use Rattle.limited.specs.declared.Limit.{Limit}

module _ (t : Trace) (m l : ℕ) where
  pub told-model : modelled m ≡ false → ToldLimited t m l (of (full.bare NoModel) 0)
  told-model e = record {
    nine = λ _. refl;
    ten = λ k _. absurd (false≢true (sym e ∙ k));
    says = λ k _. absurd (false≢true (sym e ∙ k));
    fits = omega arith;
  }

  module _ (k : So (modelled m)) where
    pub told-form : well_formed t ≡ false → ToldLimited t m l (of (full.bare NotWellFormed) 0)
    told-form e = record {
      nine = λ n. absurd (false≢true (sym n ∙ k));
      ten = λ _ _. refl;
      says = λ _ w. absurd (false≢true (sym e ∙ w));
      fits = omega arith;
    }

    module _ (w : So (well_formed t)) where
      pub told-says : (a : Limited) → Limits (frame_of t) (kept_of m t) l a → (r : Limit) → r ≡ laid_limit a → r.len ≤ RECORDS → ToldLimited t m l r
      told-says a s r e h = record {
        nine = λ n. absurd (false≢true (sym n ∙ k));
        ten = λ _ n. absurd (false≢true (sym n ∙ w));
        says = λ _ _. (a, s, e);
        fits = h;
      }

      -- a verdict of the full entry that costs no step
      told-full : (v : held.Verdict) → full.ToldBy t (kept_of m t) v → ((u : Verdict) → v.outcome ≡ (full.laid u).outcome → counted (frame_of t) (kept_of m t) u ≡ 0) → ToldLimited t m l (of v 0)
      told-full v p free =
          let (u, s, e) = p.says w in
          told-says (decided u 0) (s, sym (free u (ap (λ (v : held.Verdict). v.outcome) e)), omega arith) (of v 0) (ap (λ (v : held.Verdict). of v 0) e) p.fits

      pub told-source : (x : ℕ) → Some x ≡ missing_of t → ToldLimited t m l (of (full.bare (NoSource x)) 0)
      told-source x e = told-full (full.bare (NoSource x)) (verdict.told-source t (kept_of m t) w x e) free
        where
          free : (u : Verdict) → NoSource x ≡ (full.laid u).outcome → counted (frame_of t) (kept_of m t) u ≡ 0
          free (no_source y) e = refl
          free (circle c rs) e = refl
          free (order xs) e = absurd (let z : ◌≡◌ {A = ℕ} 0 1 = cc in omega arith)
          free none_left e = absurd (let z : ◌≡◌ {A = ℕ} 0 1 = cc in omega arith)

module _ (t : Trace) (m l : ℕ) (h : full.Reaches t m) (c : ring.Circle) (p : CircleOf t m c) where
  -- the circle as it is said of any kept pairs
  ringed : CircleBy t (kept_of m t) c
  ringed = record {
    fits = p.fits;
    long = p.long;
    rest = p.rest;
    circle = λ w. p.circle ((and-iff (same-iff {a = well_formed t}) (same-iff {a = modelled m})).1 (w, h.model));
    nothing = λ n. absurd (false≢true (sym n ∙ h.well));
  }

  pub told-circle : 0 < c.len → ToldLimited t m l (of (record { outcome = Circle; len = c.len; operations = c.operations; rules = c.rules }) 0)
  told-circle g = told-full t m l h.model h.well _ (verdict.told-circle t (kept_of m t) h.well h.sourced c ringed g) free
    where
      free : (u : Verdict) → Circle ≡ (full.laid u).outcome → counted (frame_of t) (kept_of m t) u ≡ 0
      free (no_source y) e = refl
      free (circle c rs) e = refl
      free (order xs) e = absurd (let z : ◌≡◌ {A = ℕ} 0 1 = cc in omega arith)
      free none_left e = absurd (let z : ◌≡◌ {A = ℕ} 0 1 = cc in omega arith)

  module _ (z : c.len ≡ 0) where
    abbrev f : Frame
    f = frame_of t

    abbrev K : Table
    K = kept_of m t

    asked : So (answered m t)
    asked = (and-iff (same-iff {a = well_formed t}) (same-iff {a = modelled m})).1 (h.well, h.model)

    sourced : Sourced f
    sourced = subst (λ (a : Found). Lowest (Missing f) (record? a)) h.sourced (missing-lowest t h.well)

    clear : Circled f K none
    unfolding ruled_of
    clear = subst (λ (n : ℕ). Circled f K (ruled_of n c.operations c.rules)) z (p.circle asked)

    -- the plain search, and its answer within the limit
    abbrev P : ℕ × Option (List ℕ)
    P = plain f K (operations f) []

    first : (o : Option (List ℕ)) → P.1 ≡ o → Least (Valid f K) o
    first o e = subst (Least (Valid f K)) e (plain-first f (good t h.well) K (kept-orderly t h.well m h.model))

    says-order : (n : ℕ) (xs : List ℕ) → P ≡ (n, some xs) → Says f K (order xs)
    says-order n xs e = (sourced, clear, first (some xs) (ap (λ (r : ℕ × Option (List ℕ)). r.1) e))

    says_none : (n : ℕ) → P ≡ (n, none) → Says f K none_left
    says_none n e = (sourced, clear, first none (ap (λ (r : ℕ × Option (List ℕ)). r.1) e))

    by : counted_of t m l ≡ counted_by l P
    unfolding counted_of
    by = ap (λ (b : Bool). cond b (counted_by l P) (walk.bare_count walked.Over)) asked

    -- what the answer is made of, where the search comes to k and o
    some_in : (k : ℕ) (xs : List ℕ) → P ≡ (k, some xs) → (b : Bool) → leb k l ≡ b → counted_of t m l ≡ cond b (walk.counted_order k xs) (walk.bare_count walked.Over)
    some_in k xs d b g = by ∙ ap (counted_by l) d ∙ ap (λ (b : Bool). cond b (walk.counted_order k xs) (walk.bare_count walked.Over)) g

    none_in : (k : ℕ) → P ≡ (k, none) → (b : Bool) → leb k l ≡ b → counted_of t m l ≡ cond b (walk.bare_count (walked.End k)) (walk.bare_count walked.Over)
    none_in k d b g = by ∙ ap (counted_by l) d ∙ ap (λ (b : Bool). cond b (walk.bare_count (walked.End k)) (walk.bare_count walked.Over)) g

    past : {k : ℕ} → leb k l ≡ false → l < k
    past {k} e = elim (dec_lt l k) [ yes g ↦ g | no g ↦ absurd (false≢true (sym e ∙ (so-le {m = k} {n = l}).1 (omega arith))) ]

    short : (xs : List ℕ) → Says f K (order xs) → length xs ≤ RECORDS
    unfolding frame_of
    short xs s = omega (arith, valid-short f (good t h.well) K xs s.2.0, well-fits t h.well)

    counts : (k : ℕ) (o : Option (List ℕ)) → P ≡ (k, o) → steps f K ≡ k
    counts k o d = ap (λ (r : ℕ × Option (List ℕ)). r.0) d

    module _ (r : Counted) (e : r ≡ counted_of t m l) where
      is : (w : Walked) → r.walked ≡ w → (q : Counted) → counted_of t m l ≡ q → q.walked ≡ w
      is w a q b = sym (ap (λ (r : Counted). r.walked) (e ∙ b)) ∙ a

      pub told-order : (n : ℕ) → r.walked ≡ walked.Order n → ToldLimited t m l (record { outcome = Decided Order; len = r.len; operations = r.operations; rules = replicate RECORDS 0; steps = n })
      told-order n q = go P.0 P.1 refl (leb P.0 l) refl
        where
          R : Type 0
          R = ToldLimited t m l (record { outcome = Decided Order; len = r.len; operations = r.operations; rules = replicate RECORDS 0; steps = n })

          go : (k : ℕ) (o : Option (List ℕ)) → P ≡ (k, o) → (b : Bool) → leb k l ≡ b → R
          go k (some xs) d true g =
              let u = some_in k xs d true g in
              let same : k ≡ n = let v = is (walked.Order n) q _ u in cc in
              let s = says-order k xs d in
              told-says t m l h.model h.well (decided (order xs) n) (s, sym same ∙ sym (counts k (some xs) d), omega (arith, same, (so-le {m = k} {n = l}).0 g)) _
              (ap (λ (r : Counted). record { outcome = Decided Order; len = r.len; operations = r.operations; rules = replicate RECORDS 0; steps = n }) (e ∙ u))
              (omega (arith, ap (λ (r : Counted). r.len) (e ∙ u), short xs s))
          go k (some xs) d false g = absurd (let v = is (walked.Order n) q _ (some_in k xs d false g) in let z : ◌≡◌ {A = ℕ} 0 1 = cc in omega arith)
          go k none d true g = absurd (let v = is (walked.Order n) q _ (none_in k d true g) in let z : ◌≡◌ {A = ℕ} 0 1 = cc in omega arith)
          go k none d false g = absurd (let v = is (walked.Order n) q _ (none_in k d false g) in let z : ◌≡◌ {A = ℕ} 0 1 = cc in omega arith)

      pub told_none : (n : ℕ) → r.walked ≡ walked.End n → ToldLimited t m l (bare_limit (Decided NoneLeft) n)
      told_none n q = go P.0 P.1 refl (leb P.0 l) refl
        where
          go : (k : ℕ) (o : Option (List ℕ)) → P ≡ (k, o) → (b : Bool) → leb k l ≡ b → ToldLimited t m l (bare_limit (Decided NoneLeft) n)
          go k none d true g =
              let same : k ≡ n = let v = is (walked.End n) q _ (none_in k d true g) in cc in
              told-says t m l h.model h.well (decided none_left n) (says_none k d, sym same ∙ sym (counts k none d), omega (arith, same, (so-le {m = k} {n = l}).0 g)) _ refl (omega arith)
          go k none d false g = absurd (let v = is (walked.End n) q _ (none_in k d false g) in let z : ◌≡◌ {A = ℕ} 0 1 = cc in omega arith)
          go k (some xs) d true g = absurd (let v = is (walked.End n) q _ (some_in k xs d true g) in let z : ◌≡◌ {A = ℕ} 0 1 = cc in omega arith)
          go k (some xs) d false g = absurd (let v = is (walked.End n) q _ (some_in k xs d false g) in let z : ◌≡◌ {A = ℕ} 0 1 = cc in omega arith)

      pub told_over : r.walked ≡ walked.Over → ToldLimited t m l (bare_limit Undecided l)
      told_over q = go P.0 P.1 refl (leb P.0 l) refl
        where
          go : (k : ℕ) (o : Option (List ℕ)) → P ≡ (k, o) → (b : Bool) → leb k l ≡ b → ToldLimited t m l (bare_limit Undecided l)
          go k (some xs) d true g = absurd (let v = is walked.Over q _ (some_in k xs d true g) in let z : ◌≡◌ {A = ℕ} 0 1 = cc in omega arith)
          go k none d true g = absurd (let v = is walked.Over q _ (none_in k d true g) in let z : ◌≡◌ {A = ℕ} 0 1 = cc in omega arith)
          go k (some xs) d false g =
              told-says t m l h.model h.well (undecided l) ((limits-exact f K l (order xs) (says-order k xs d)).1 (omega (arith, counts k (some xs) d, past {k = k} g))) _ refl (omega arith)
          go k none d false g =
              told-says t m l h.model h.well (undecided l) ((limits-exact f K l none_left (says_none k d)).1 (omega (arith, counts k none d, past {k = k} g))) _ refl (omega arith)
