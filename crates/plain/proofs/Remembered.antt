-- The steps below a list that failed may be remembered by two sets, and the sets are kept up by one step.
--
--   stands_alike  == two lists with the same sets are alike
--   served-step   == who is served after one more operation: who reads from it; at other addresses, who was
--   remember      == the end of a search may be remembered
use mathlib.Core.Path.{◌≡◌, sym, ap, ◌∙◌}
use mathlib.Core.Logic.{◌↔◌, ◌⊎◌, inl, inr}
use mathlib.Core.Bool.{Bool, false, cond, So, false≢true}
use mathlib.Core.List.{List, [], ◌∷◌, ◌++◌}
use mathlib.Core.Option.{none}
use Prim.Native.Nat.{ℕ, ◌-◌, ◌<◌, ◌≤◌}
use native.Mathlib.Omega.{arith}
use lib.ListN.{length}
use Rattle.laws.specs.Places.{count}
use Rattle.laws.specs.Relation.{Table}
use Rattle.laws.proofs.Tests.{test, off, eq?}
use Rattle.laws.proofs.Sums.{sum-cong}
use Rattle.laws.proofs.Counts.{count-append, count-sum}
use Rattle.rules.specs.Frame.{Frame, Good, Writer, Source}
use Rattle.rules.specs.RuleTests.{writer?}
use Rattle.rules.proofs.RuleTests.{writer-iff}
use Rattle.rules.specs.Ready.{operations}
use Rattle.rules.proofs.Ready.{due, not-due, steps-few}
use Rattle.plain.specs.Plain.{so_far, Next, Orderly, plain}
use Rattle.plain.specs.inner.SameBelow.{Served, Alike}
use Rattle.plain.specs.inner.Remembered.{StandsFor, Remembered}
use Rattle.plain.proofs.SameBelow.{so_far-snoc, plain-alike}

module _ (f : Frame) (g : Good f) where
  pub served-step : (p : List ℕ) (y c : ℕ) → Served f (p ++ (y ∷ [])) c ↔ ((count c (p ++ (y ∷ [])) ≡ 0) × (Source f y c ⊎ ((Writer f y c → ⊥) × Served f p c)))
  served-step p y c = (λ s. (s.unplaced, there s (test (writer? f y c))), λ h. back h.0 h.1)
    where
      there : Served f (p ++ (y ∷ [])) c → So (writer? f y c) ⊎ (writer? f y c ≡ false) → Source f y c ⊎ ((Writer f y c → ⊥) × Served f p c)
      there s (inl t) =
          let w = (writer-iff f y c).0 t in
          let v : f.read c ≡ f.written y = s.value ∙ so_far-snoc f p y c ∙ ap (λ b. cond b (f.written y) (so_far f p c)) t in
          inl (record { writer = w; reads = s.reads; value = v; later = λ e. g.fresh y w.writes (sym v ∙ e ∙ ap f.first (sym w.same)) })
      there s (inr t) = inr (
        λ w. false≢true (sym t ∙ (writer-iff f y c).1 w),
        record {
          reads = s.reads;
          unplaced = omega (arith, s.unplaced, count-append c p (y ∷ []));
          value = s.value ∙ so_far-snoc f p y c ∙ ap (λ b. cond b (f.written y) (so_far f p c)) t;
        },
      )

      back : count c (p ++ (y ∷ [])) ≡ 0 → Source f y c ⊎ ((Writer f y c → ⊥) × Served f p c) → Served f (p ++ (y ∷ [])) c
      back o (inl s) = record {
        reads = s.reads;
        unplaced = o;
        value = s.value ∙ sym (so_far-snoc f p y c ∙ ap (λ b. cond b (f.written y) (so_far f p c)) ((writer-iff f y c).1 s.writer));
      }
      back o (inr (n, s)) = record {
        reads = s.reads;
        unplaced = o;
        value = s.value ∙ sym (so_far-snoc f p y c ∙ ap (λ b. cond b (f.written y) (so_far f p c)) (off (λ t. n ((writer-iff f y c).0 t))));
      }

module _ (f : Frame) (g : Good f) (K : Table) (placed served : ℕ → Bool) where
  few : (p : List ℕ) → StandsFor f K p placed served → (x : ℕ) → count x p ≤ cond (f.operation x) 1 0
  few p s = steps-few f (Next f K) (λ p c n. (n.operation, n.unplaced)) p s.built

  one : (p : List ℕ) → StandsFor f K p placed served → (x : ℕ) → count x p ≤ 1
  one p s x = elim (test (f.operation x)) [ inl t ↦ omega (arith, few p s x, due t) | inr t ↦ omega (arith, few p s x, not-due t) ]

  below : (p : List ℕ) → StandsFor f K p placed served → (x : ℕ) → 0 < count x p → x < f.records
  below p s x h = g.below x (elim (test (f.operation x)) [ inl t ↦ t | inr t ↦ absurd (omega (arith, few p s x, not-due t)) ])

  pub stands_alike : (p q : List ℕ) → StandsFor f K p placed served → StandsFor f K q placed served → Alike f p q
  stands_alike p q s t = record {
    often = λ x. elim (test (placed x)) [
      | inl h ↦ omega (arith, (s.holds x).0 h, (t.holds x).0 h, one p s x, one q t x)
      | inr h ↦ omega (arith, none_of p s x h, none_of q t x h)
    ];
    serves = λ c. (λ h. (t.serves c).0 ((s.serves c).1 h), λ h. (s.serves c).0 ((t.serves c).1 h));
  }
    where
      none_of : (p : List ℕ) → StandsFor f K p placed served → (x : ℕ) → placed x ≡ false → count x p ≡ 0
      none_of p s x h = elim (eq? (count x p) 0) [ inl e ↦ e | inr n ↦ absurd (false≢true (sym h ∙ (s.holds x).1 (omega arith))) ]

  stands-long : (p q : List ℕ) → StandsFor f K p placed served → StandsFor f K q placed served → length p ≡ length q
  stands-long p q s t =
      sym (count-sum f.records p (below p s)) ∙ sum-cong f.records _ _ (λ x _. (stands_alike p q s t).often x) ∙ count-sum f.records q (below q t)

  pub remember : Orderly f K → (p : List ℕ) → StandsFor f K p placed served → (c : ℕ) → plain f K (operations f - length p) p ≡ (c, none) → Remembered f K placed served c
  remember k p s c e q t h =
      ap (λ (n : ℕ). plain f K (operations f - n) q) (stands-long q p t s) ∙ plain-alike f g K k (operations f - length p) q p (stands_alike q p t s) ∙ e
