-- Below two lists that are alike the search does the same: so the steps below a list that failed may be remembered by its two sets.
--
--   last-like, last-alike         == the last number that passes a test, of tests that say the same
--   so_far-snoc                    == one more operation placed
--   alike-same, alike-back, alike-snoc == lists that are alike stay alike when both are extended by the same operation
--   next-alike                    == what may be next depends on what is alike
--   tries-alike, plain-alike      == and so do the search's steps and what it finds
use mathlib.Core.Path.{◌≡◌, refl, sym, ap, ap₂, ◌∙◌}
use mathlib.Core.Logic.{◌⊎◌, inl, inr}
use mathlib.Core.Bool.{Bool, true, false, cond, So, false≢true}
use mathlib.Core.List.{List, [], ◌∷◌, ◌++◌}
use mathlib.Core.Option.{Option, none, some}
use Prim.Native.Nat.{ℕ, zero, suc, ◌+◌, ◌<◌}
use native.Mathlib.Omega.{arith}
use lib.ListN.{length, get_or, length-append, get_or-append}
use lib.Seq.{get_or-append_seam}
use Rattle.laws.specs.Places.{count}
use Rattle.laws.specs.Relation.{Table}
use Rattle.laws.specs.Latest.{last_of}
use Rattle.laws.proofs.Tests.{test, test-one}
use Rattle.laws.proofs.Counts.{count-append}
use Rattle.rules.specs.Frame.{Frame, Good}
use Rattle.rules.specs.RuleTests.{writer?}
use Rattle.plain.specs.Plain.{waits, so_far, expected, Next, next?, Orderly, tries, plain}
use Rattle.plain.specs.inner.SameBelow.{Served, Alike}
use Rattle.plain.proofs.Next.{waits-iff, next-iff}

-- the same numbers pass; where none does, v goes over
pub last-like : (t u : ℕ → Bool) (w : ℕ → ℕ) (d e v k : ℕ) → ((i : ℕ) → t i ≡ u i) → (v ≡ d → v ≡ e) → v ≡ last_of t w d k → v ≡ last_of u w e k
unfolding last_of
last-like t u w d e v zero h b r = b r
last-like t u w d e v (suc k) h b r = go (t k) (u k) (h k) r (last-like t u w d e v k h b)
  where
    go : (x y : Bool) → x ≡ y → v ≡ cond x (w k) (last_of t w d k) → (v ≡ last_of t w d k → v ≡ last_of u w e k) → v ≡ cond y (w k) (last_of u w e k)
    go true true q r n = r
    go true false q r n = absurd (false≢true (sym q))
    go false true q r n = absurd (false≢true q)
    go false false q r n = n r

pub last-alike : (t u : ℕ → Bool) (w x : ℕ → ℕ) (d k : ℕ) → ((i : ℕ) → i < k → (t i ≡ u i) × (w i ≡ x i)) → last_of t w d k ≡ last_of u x d k
unfolding last_of
last-alike t u w x d zero h = refl
last-alike t u w x d (suc k) h =
    ap₂ (λ b v. cond b v (last_of t w d k)) (h k (omega arith)).0 (h k (omega arith)).1
    ∙ ap (cond (u k) (x k)) (last-alike t u w x d k (λ i l. h i (omega arith)))

module _ (f : Frame) where
  pub so_far-snoc : (p : List ℕ) (i c : ℕ) → so_far f (p ++ (i ∷ [])) c ≡ cond (writer? f i c) (f.written i) (so_far f p c)
  unfolding so_far last_of
  so_far-snoc p i c =
      let n : length (p ++ (i ∷ [])) ≡ suc (length p) = omega (arith, length-append p (i ∷ [])) in
      ap (last_of (λ j. writer? f (get_or (p ++ (i ∷ [])) j 0) c) (λ j. f.written (get_or (p ++ (i ∷ [])) j 0)) (f.first (f.address c))) n
      ∙ ap₂ (λ b v. cond b v (last_of (λ j. writer? f (get_or (p ++ (i ∷ [])) j 0) c) (λ j. f.written (get_or (p ++ (i ∷ [])) j 0)) (f.first (f.address c)) (length p)))
      (ap (λ x. writer? f x c) (get_or-append_seam p i [] 0)) (ap f.written (get_or-append_seam p i [] 0))
      ∙ ap (cond (writer? f i c) (f.written i)) (last-alike _ _ _ _ (f.first (f.address c)) (length p) (λ j l.
      let e = get_or-append p (i ∷ []) 0 j l in (ap (λ x. writer? f x c) e, ap f.written e)))

  pub alike-back : (p q : List ℕ) → Alike f p q → Alike f q p
  alike-back p q a = record { often = λ x. sym (a.often x); serves = λ c. ((a.serves c).1, (a.serves c).0) }

  -- one way
  served-snoc : (p q : List ℕ) → Alike f p q → (i c : ℕ) → Served f (p ++ (i ∷ [])) c → Served f (q ++ (i ∷ [])) c
  served-snoc p q a i c s = go (test (writer? f i c))
    where
      out : count c (q ++ (i ∷ [])) ≡ 0
      out = omega (arith, s.unplaced, count-append c p (i ∷ []), count-append c q (i ∷ []), a.often c)

      go : So (writer? f i c) ⊎ (writer? f i c ≡ false) → Served f (q ++ (i ∷ [])) c
      go (inl t) = record { reads = s.reads; unplaced = out; value = s.value ∙ so_far-snoc p i c ∙ ap (λ b. cond b (f.written i) (so_far f p c)) t ∙ sym (so_far-snoc q i c ∙ ap (λ b. cond b (f.written i) (so_far f q c)) t) }
      go (inr t) =
          let r = (a.serves c).0 (record { reads = s.reads; unplaced = omega (arith, s.unplaced, count-append c p (i ∷ [])); value = s.value ∙ so_far-snoc p i c ∙ ap (λ b. cond b (f.written i) (so_far f p c)) t }) in
          record { reads = s.reads; unplaced = out; value = r.value ∙ sym (so_far-snoc q i c ∙ ap (λ b. cond b (f.written i) (so_far f q c)) t) }

  pub alike-snoc : (p q : List ℕ) → Alike f p q → (i : ℕ) → Alike f (p ++ (i ∷ [])) (q ++ (i ∷ []))
  alike-snoc p q a i = record {
    often = λ x. omega (arith, count-append x p (i ∷ []), count-append x q (i ∷ []), a.often x);
    serves = λ c. (served-snoc p q a i c, served-snoc q p (alike-back p q a) i c);
  }

module _ (f : Frame) (g : Good f) (K : Table) (k : Orderly f K) where
  next_one : (p q : List ℕ) → Alike f p q → (c : ℕ) → Next f K p c → Next f K q c
  unfolding expected
  next_one p q a c n = record {
    operation = n.operation;
    unplaced = omega (arith, n.unplaced, a.often c);
    partners = λ x t. omega (arith, n.partners x t, a.often x);
    right = λ r. last-like (waits f p c) (waits f q c) f.written (so_far f p c) (so_far f q c) (f.read c) f.records (λ S. same S)
        (λ e. ((a.serves c).0 (record { reads = r; unplaced = n.unplaced; value = e })).value) (n.right r);
  }
    where
      over : (p q : List ℕ) → Alike f p q → (S : ℕ) → So (waits f p c S) → So (waits f q c S)
      over p q a S t = let r = (waits-iff f p c S).0 t in (waits-iff f q c S).1 (r.0, omega (arith, r.1, a.often S))

      same : (S : ℕ) → waits f p c S ≡ waits f q c S
      same S = test-one {A = So (waits f q c S)} (over p q a S, over q p (alike-back f p q a) S) (λ t. t, λ t. t)

  pub next-alike : (p q : List ℕ) → Alike f p q → (c : ℕ) → next? f K p c ≡ next? f K q c
  next-alike p q a c =
      test-one {A = Next f K q c}
      (λ t. next_one p q a c ((next-iff f g K k p c).0 t), λ n. (next-iff f g K k p c).1 (next_one q p (alike-back f p q a) c n))
      (next-iff f g K k q c)

  pub tries-alike : (below : List ℕ → ℕ × Option (List ℕ)) (p q : List ℕ) → Alike f p q → ((c : ℕ) → below (p ++ (c ∷ [])) ≡ below (q ++ (c ∷ [])))
      → (j i : ℕ) → tries f K below p j i ≡ tries f K below q j i
  unfolding tries
  tries-alike below p q a b zero i = refl
  tries-alike below p q a b (suc j) i =
      ap₂ (λ z (r : ℕ × Option (List ℕ)). elim z [
        | false ↦ tries f K below p j (suc i)
        | true ↦ elim r.1 [ some s ↦ (suc r.0, some (i ∷ s)) | none ↦ let q = tries f K below p j (suc i) in (suc r.0 + q.0, q.1) ]
      ]) (next-alike p q a i) (b i)
      ∙ ap (λ (rest : ℕ × Option (List ℕ)). elim (next? f K q i) [
        | false ↦ rest
        | true ↦ let r = below (q ++ (i ∷ [])) in elim r.1 [ some s ↦ (suc r.0, some (i ∷ s)) | none ↦ (suc r.0 + rest.0, rest.1) ]
      ]) (tries-alike below p q a b j (suc i))

  pub plain-alike : (d : ℕ) (p q : List ℕ) → Alike f p q → plain f K d p ≡ plain f K d q
  unfolding plain
  plain-alike zero p q a = refl
  plain-alike (suc d) p q a = tries-alike (plain f K d) p q a (λ c. plain-alike d (p ++ (c ∷ [])) (q ++ (c ∷ [])) (alike-snoc f p q a c)) f.records 0
