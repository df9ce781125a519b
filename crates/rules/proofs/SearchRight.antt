-- The search is right.
--
--   dead-none  == a memory that remembers nothing is right
--   dead-note  == one more set that cannot be completed is remembered
--   seek-right == below any prefix: the first valid order or that there is none, and a memory that is right
--   seek-first == from nothing placed: the first valid order, or that there is none
use mathlib.Core.Path.{◌≡◌, refl, sym, ◌∙◌, subst}
use mathlib.Core.Logic.{inl, inr}
use mathlib.Core.Bool.{Bool, true, false, false≢true}
use mathlib.Core.List.{List, [], ◌∷◌, ◌++◌}
use mathlib.Core.Option.{Option, none, some}
use Prim.Native.Nat.{ℕ, zero, suc, ◌+◌, ◌<◌}
use native.Mathlib.Nat.{not-suc-le-zero}
use native.Mathlib.Omega.{arith}
use lib.ListN.{length, length-append}
use Rattle.laws.specs.Places.{count}
use Rattle.laws.specs.Relation.{Rel, Table}
use Rattle.laws.specs.Dict.{Answer, Least}
use Rattle.laws.specs.inner.TryingInTurn.{Tried}
use Rattle.laws.proofs.Tests.{eq?}
use Rattle.laws.proofs.Places.{count-later}
use Rattle.laws.proofs.Search.{tried-none, tried-next, tried-some, tried-all, full-some}
use Rattle.laws.proofs.Steps.{steps-join}
use Rattle.rules.specs.Frame.{Frame, Good}
use Rattle.rules.specs.Order.{Valid}
use Rattle.rules.specs.Missing.{Sourced}
use Rattle.rules.specs.Ready.{operations, Ready}
use Rattle.rules.specs.inner.Discipline.{Disciplined, Guide}
use Rattle.rules.specs.inner.EarlyStop.{Failed}
use Rattle.rules.proofs.SearchScheme.{Kit, KitFits, walk, seek, NoneBelow, RightAnswer}
use Rattle.rules.proofs.Ready.{valid-sized, unready-none, disciplined-full, full-valid, exchange-none}
use Rattle.rules.proofs.EarlyStop.{failed-none, failed-more}

pub dead-none : (f : Frame) (K : Table) (H : Rel) (k : Kit) (D : k.Memo) → ((p : List ℕ) → k.look D p ≡ false) → NoneBelow f K H k D
dead-none f K H k D n p q t = absurd (false≢true (sym (n p) ∙ t))

module _ (f : Frame) (g : Good f) (K : Table) (H : Rel) (G : Guide f K H) (m : Sourced f) (k : Kit) (fits : KitFits f K H k) where
  -- by exchange
  pub dead-note : (D : k.Memo) → NoneBelow f K H k D → (p : List ℕ) → Disciplined f H p → Answer (Valid f K) p none → NoneBelow f K H k (k.note D p)
  dead-note D d p q a r t u s v = elim (fits.noted D p r q t u) [ inl h ↦ d r t h s v | inr e ↦ exchange-none f g K H G m r p e q a s v ]

  -- one more that failed
  more : (p F : List ℕ) (i : ℕ) → Failed f K H p (λ z. 0 < count z F) → Ready f H p i → Answer (Valid f K) (p ++ (i ∷ [])) none → Failed f K H p (λ z. 0 < count z (i ∷ F))
  more p F i h r a = failed-more f K H p _ _ i h r a (λ z c. elim (eq? z i) [ inl e ↦ inl e | inr n ↦ inr (omega (arith, count-later z i F n)) ])

  walk-right : (below : List ℕ → k.Memo → k.Memo × Option (List ℕ)) (p : List ℕ) → Disciplined f H p → length p < operations f
      → ((c : ℕ) → Ready f H p c → (D : k.Memo) → NoneBelow f K H k D → RightAnswer f K H k (p ++ (c ∷ [])) (below (p ++ (c ∷ [])) D))
      → (j i : ℕ) → j + i ≡ f.records → Tried (Valid f K) p i → (F : List ℕ) → Failed f K H p (λ z. 0 < count z F) → (D : k.Memo) → NoneBelow f K H k D
      → RightAnswer f K H k p (walk f.records k below p j i F D)
  unfolding walk
  walk-right below p q l b zero i e t F h D d =
      let a : Answer (Valid f K) p none = tried-all (Valid f K) p f.records (operations f) (valid-sized f g K) l (subst (Tried (Valid f K) p) (let o : i ≡ f.records = omega arith in o) t) in
      (dead-note D d p q a, a)
  walk-right below p q l b (suc j) i e t F h D d = go (k.ready p i) refl (λ t. walk-right below p q l b j (suc i) (omega arith) t)
    where
      -- the rest of the loop
      Rest : Type 0
      Rest = Tried (Valid f K) p (suc i) → (F : List ℕ) → Failed f K H p (λ z. 0 < count z F) → (D : k.Memo) → NoneBelow f K H k D → RightAnswer f K H k p (walk f.records k below p j (suc i) F D)

      next : Answer (Valid f K) (p ++ (i ∷ [])) none → Tried (Valid f K) p (suc i)
      next a = tried-next (Valid f K) p i t a

      back : (r : k.Memo × Option (List ℕ)) (u : Bool) → k.stop p (i ∷ F) ≡ u → Ready f H p i → RightAnswer f K H k (p ++ (i ∷ [])) r → Rest
          → RightAnswer f K H k p (elim r.1 [
            | some s ↦ (r.0, some (i ∷ s))
            | none ↦ elim u [ true ↦ (k.note r.0 p, none) | false ↦ walk f.records k below p j (suc i) (i ∷ F) r.0 ]
          ])
      back (D', some s) u c y (d', a) rest = (d', tried-some (Valid f K) p f.records (operations f) (valid-sized f g K) i s t a)
      back (D', none) true c y (d', a) rest = let z = fits.stops p (i ∷ F) q (more p F i h y a) c in (dead-note D' d' p q z, z)
      back (D', none) false c y (d', a) rest = rest (next a) (i ∷ F) (more p F i h y a) D' d'

      go : (z : Bool) → k.ready p i ≡ z → Rest
          → RightAnswer f K H k p (elim z [
            | false ↦ walk f.records k below p j (suc i) F D
            | true ↦ let r = below (p ++ (i ∷ [])) D in elim r.1 [
              | some s ↦ (r.0, some (i ∷ s))
              | none ↦ elim (k.stop p (i ∷ F)) [ true ↦ (k.note r.0 p, none) | false ↦ walk f.records k below p j (suc i) (i ∷ F) r.0 ]
            ]
          ])
      go false c rest = rest (next (unready-none f g K H G p i (λ y. false≢true (sym c ∙ (fits.readies p i q).1 y)))) F h D d
      go true c rest = let y = (fits.readies p i q).0 c in back (below (p ++ (i ∷ [])) D) (k.stop p (i ∷ F)) refl y (b i y D d) rest

  pub seek-right : (d : ℕ) (p : List ℕ) → Disciplined f H p → d + length p ≡ operations f → (D : k.Memo) → NoneBelow f K H k D → RightAnswer f K H k p (seek f.records k d p D)
  unfolding seek count
  seek-right zero p q l D d = (d, full-some (Valid f K) p (full-valid f g K H G m p (disciplined-full f g H p q (omega arith)) q))
  seek-right (suc n) p q l D d =
      go (k.look D p) refl (walk-right (seek f.records k n) p q (omega arith)
      (λ c y D d. seek-right n (p ++ (c ∷ [])) (steps-join (Ready f H) [] p (c ∷ []) q (y, tt)) (simp length-append (omega arith)) D d)
      f.records 0 (omega arith) (tried-none (Valid f K) p)
      [] (failed-none f K H p _ (λ z h. not-suc-le-zero h)) D d)
    where
      go : (b : Bool) → k.look D p ≡ b → RightAnswer f K H k p (walk f.records k (seek f.records k n) p f.records 0 [] D)
          → RightAnswer f K H k p (elim b [ true ↦ (D, none) | false ↦ walk f.records k (seek f.records k n) p f.records 0 [] D ])
      go true e r = (d, d p q e)
      go false e r = r

  pub seek-first : (D : k.Memo) → NoneBelow f K H k D → Least (Valid f K) (seek f.records k (operations f) [] D).1
  seek-first D d = (seek-right (operations f) [] tt (omega arith) D d).1
