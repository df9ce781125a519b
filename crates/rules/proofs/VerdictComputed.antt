-- The search with computing tests finds the first valid order, and the verdict by it is the verdict.
--
--   ready-iff, stop-of, known_more == the tests say what the search needs of them
--   kit-fits                       == so the kit fits under any guide that is a table
--   round-guide                    == the chains of any round are such a guide
--   sought-first                   == `sought` is the first valid order, or that there is none
--   verdict-says, verdict-only     == `verdict?` is the verdict
use mathlib.Core.Path.{◌≡◌, refl, sym, subst}
use mathlib.Core.Logic.{◌↔◌, ◌⊎◌, inl, inr}
use mathlib.Core.Bool.{false, So, ◌&&◌, false≢true}
use mathlib.Core.List.{List, [], ◌∷◌}
use mathlib.Core.Option.{Option, none, some}
use Prim.Native.Nat.{ℕ, suc, ◌<◌}
use native.Mathlib.Decide.{dec_lt}
use native.Mathlib.Omega.{arith}
use lib.Dec.{eqb}
use Rattle.laws.specs.Places.{count}
use Rattle.laws.specs.Relation.{Table}
use Rattle.laws.specs.inner.Sorted.{On}
use Rattle.laws.specs.Dict.{Least}
use Rattle.laws.specs.Lowest.{Lowest, lowest}
use Rattle.laws.specs.inner.Steps.{Same}
use Rattle.laws.proofs.Tests.{and-iff, or-iff, imp-iff, same-iff, all-iff, any-iff, so-all, so-eq, so-lt, off}
use Rattle.laws.proofs.Places.{count-here}
use Rattle.laws.proofs.Lowest.{lowest-iff}
use Rattle.rules.specs.Frame.{Frame, Good, Writer, Source}
use Rattle.rules.specs.Order.{Valid}
use Rattle.rules.specs.Rules.{Chains, nothing, InRecords, Joins}
use Rattle.rules.specs.RuleTests.{source?}
use Rattle.rules.specs.ComputedRounds.{chains?}
use Rattle.rules.specs.Missing.{Missing, Sourced, missing?}
use Rattle.rules.specs.ShownCircle.{Circled}
use Rattle.rules.specs.inner.ComputedCircle.{circled?}
use Rattle.rules.proofs.Ends.{joins-within, chains-within}
use Rattle.rules.proofs.RuleTests.{writer-iff, source-iff, chains-iff}
use Rattle.rules.proofs.Missing.{missing-iff}
use Rattle.rules.proofs.ShownCircle.{circled-computed}
use Rattle.rules.specs.Verdict.{Verdict, no_source, circle, order, none_left, Says}
use Rattle.rules.specs.Ready.{Ready}
use Rattle.rules.specs.inner.Discipline.{Disciplined, Guide}
use Rattle.rules.specs.inner.EarlyStop.{Stop, unread, covered}
use Rattle.rules.proofs.SearchScheme.{KitFits}
use Rattle.rules.proofs.ComputedVerdict.{ready?, unread?, covered?, stop?, same?, known, kit, sought, verdict?}
use Rattle.rules.proofs.Says.{verdict-one}
use Rattle.rules.proofs.Ready.{not-due, disciplined-few, chains-guide}
use Rattle.rules.proofs.EarlyStop.{stop-none}
use Rattle.rules.proofs.SearchRight.{dead-none, seek-first}

module _ (f : Frame) (g : Good f) (H : Table) (w : InRecords f H) where
  pub ready-iff : (p : List ℕ) (c : ℕ) → So (ready? f H p c) ↔ Ready f (On H) p c
  unfolding ready?
  ready-iff p c =
      let both : (S L : ℕ) → So (source? f S L && _) ↔ (Source f S L × (0 < count S p)) = λ S L. and-iff (source-iff f S L) so-lt in
      let i : So (ready? f H p c) ↔ _ = and-iff (and-iff (and-iff same-iff so-eq) (all-iff (λ x. imp-iff so-lt))) (all-iff (λ L. imp-iff (all-iff (λ S. imp-iff so-lt)))) in (
        λ t. let r = i.0 t in record {
          operation = r.0.0.0;
          unplaced = r.0.0.1;
          after = λ x h. r.0.1 x (w x c h).0 h;
          quiet = λ S L s k h. r.1 L (g.below L (g.reads L s.reads)) ((writer-iff f c L).1 k) S (g.below S (g.writes S s.writer.writes)) ((both S L).1 (s, h));
        },
        λ r. i.1 (((r.operation, r.unplaced), λ x _. r.after x), λ L _ k S _ t. let (s, h) = (both S L).0 t in r.quiet S L s ((writer-iff f c L).0 k) h),
      )

  pub stop-of : (p F : List ℕ) → So (stop? f H p F) → Stop f (On H) p (λ z. 0 < count z F)
  unfolding stop? unread? covered?
  stop-of p [] t = absurd (false≢true t)
  stop-of p (y ∷ F) t = go ((or-iff un co).0 t)
    where
      here : 0 < count y (y ∷ F)
      here = omega (arith, count-here y y F refl)

      un : So (unread? f p y) ↔ ((L : ℕ) → L < f.records → So (source? f y L) → 0 < count L p)
      un = all-iff (λ L. imp-iff so-lt)

      these : (z : ℕ) → So (f.writes z && eqb (f.address z) (f.address y) && eqb (count z p) 0) ↔ ((So (f.writes z) × (f.address z ≡ f.address y)) × (count z p ≡ 0))
      these z = and-iff (and-iff same-iff so-eq) so-eq

      -- what covers z
      Cover : ℕ → Type 0
      Cover z = (0 < count z (y ∷ F)) ⊎ ((x : ℕ) × (x < f.records) × ((Writer f x z × (count x p ≡ 0)) × So (H x z)))

      co : So (covered? f H p (y ∷ F) y) ↔ (So (f.writes y) × ((z : ℕ) → z < f.records → So (f.writes z && eqb (f.address z) (f.address y) && eqb (count z p) 0) → Cover z))
      co = and-iff same-iff (all-iff (λ z. imp-iff (or-iff so-lt (any-iff (λ x. and-iff (and-iff (writer-iff f x z) so-eq) same-iff)))))

      go : ((L : ℕ) → L < f.records → So (source? f y L) → 0 < count L p)
          ⊎ (So (f.writes y) × ((z : ℕ) → z < f.records → So (f.writes z && eqb (f.address z) (f.address y) && eqb (count z p) 0) → Cover z)) → Stop f (On H) p (λ z. 0 < count z (y ∷ F))
      go (inl u) = unread y here (λ L s. u L (g.below L (g.reads L s.reads)) ((source-iff f y L).1 s))
      go (inr (k, u)) = covered y here k (λ z zw e far. elim (u z (g.below z (g.writes z zw)) ((these z).1 ((zw, e), far))) [
        | inl h ↦ inl h
        | inr h ↦ inr (h.0, h.2.0.0, h.2.0.1, h.2.1)
      ])

  -- two disciplined lists that count alike have the same operations
  same_of : (p q : List ℕ) → Disciplined f (On H) p → Disciplined f (On H) q → So (same? f.records p q) → Same p q
  unfolding same?
  same_of p q a b t x = go (dec_lt x f.records)
    where
      far : (p : List ℕ) → Disciplined f (On H) p → (x < f.records → ⊥) → count x p ≡ 0
      far p a h = omega (arith, disciplined-few f (On H) p a x, not-due (off (λ t. h (g.below x t))))

      go : Dec (x < f.records) → (0 < count x p) ↔ (0 < count x q)
      go (yes h) = let e : count x p ≡ count x q = so-eq.0 ((so-all f.records _).0 t x h) in omega arith
      go (no h) = omega (arith, far p a h, far q b h)

  pub known_more : (D : List (List ℕ)) (q p : List ℕ) → Disciplined f (On H) q → Disciplined f (On H) p → So (known f.records (q ∷ D) p) → So (known f.records D p) ⊎ Same p q
  unfolding known
  known_more D q p b a t = elim ((or-iff {a = same? f.records p q} {b = known f.records D p} same-iff same-iff).0 t) [ inl u ↦ inr (same_of p q a b u) | inr u ↦ inl u ]

  pub kit-fits : (K : Table) → Guide f K (On H) → Sourced f → KitFits f K (On H) (kit f H)
  kit-fits K G m = record {
    noted = known_more;
    readies = λ p c _. ready-iff p c;
    stops = λ p F d h t. stop-none f g K (On H) G m p _ h (stop-of p F t);
  }

module _ (f : Frame) (g : Good f) (K : Table) (joins : Joins f K) where
  within : InRecords f K
  within = joins-within f g K joins

  round-iff : (k x y : ℕ) → So (chains? f K nothing (suc k) x y) ↔ Chains f K nothing (suc k) x y
  round-iff k = chains-iff f g K nothing within (λ x y t. absurd (false≢true t)) (suc k)

  round-within : (k : ℕ) → InRecords f (chains? f K nothing (suc k))
  round-within k x y t = chains-within f g K nothing within (λ x y t. absurd (false≢true t)) (suc k) x y ((round-iff k x y).0 t)

  pub round-guide : (k : ℕ) → Guide f K (On (chains? f K nothing (suc k)))
  round-guide k =
      let G = chains-guide f g K joins k in
      record {
        ends = λ x y t. G.ends x y ((round-iff k x y).0 t);
        base = λ x y e. (round-iff k x y).1 (G.base x y e);
        sound = λ xs v x y t. G.sound xs v x y ((round-iff k x y).0 t);
      }

  pub sought-first : Sourced f → Least (Valid f K) (sought f K)
  unfolding sought known
  sought-first m =
      seek-first f g K (On (chains? f K nothing 1)) (round-guide 0) m (kit f (chains? f K nothing 1)) (kit-fits f g (chains? f K nothing 1) (round-within 0) K (round-guide 0) m)
      [] (dead-none f K (On (chains? f K nothing 1)) (kit f (chains? f K nothing 1)) [] (λ p. refl))

  pub verdict-says : Says f K (verdict? f K)
  unfolding verdict?
  verdict-says = go (lowest (missing? f) f.records 0)
      (lowest-iff (missing? f) (Missing f) f.records (λ x _. missing-iff f g x) (λ x m. g.below x (g.reads x m.reads)) f.records 0 (omega arith) (λ y m. omega arith))
      (circled? f K) (circled-computed f g K within) (sought f K) sought-first
    where
      go : (m : Option ℕ) → Lowest (Missing f) m → (c : Option (List ℕ × List ℕ)) → Circled f K c → (o : Option (List ℕ)) → (Sourced f → Least (Valid f K) o)
          → Says f K (elim m [ some x ↦ no_source x | none ↦ elim c [ some c ↦ circle c.0 c.1 | none ↦ elim o [ some xs ↦ order xs | none ↦ none_left ] ] ])
      go (some x) m c d o v = m
      go none m (some c) d o v = (m, d)
      go none m none d (some xs) v = (m, d, v m)
      go none m none d none v = (m, d, v m)

  pub verdict-only : (v : Verdict) → Says f K v ↔ (v ≡ verdict? f K)
  verdict-only v = (λ s. verdict-one f K v (verdict? f K) s verdict-says, λ e. subst (Says f K) (sym e) verdict-says)
