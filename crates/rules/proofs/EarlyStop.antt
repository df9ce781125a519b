-- A loop that may stop has shown that its prefix cannot be completed.
--
--   front                              == in a valid order, what was ready at p and overtakes harmlessly may stand right after p
--   stop-moves                         == if a valid order extends p, one goes on with one of F
--   stop-none                          == so if all of F failed, p has failed
--   failed-none, failed-more           == nothing has failed yet; one more has
--   load-stop, unread-stop, first-stop == one operation is enough: a plain load, a writer that nobody unplaced reads, the first writer of an address
--   no-choice                          == if such a one is ready and a valid order extends p, then one goes on with it
use mathlib.Core.Path.{◌≡◌, refl, sym, ap, ◌∙◌, subst}
use mathlib.Core.Logic.{◌≢◌, ◌↔◌, ◌⊎◌, inl, inr}
use mathlib.Core.Bool.{Bool, cond, So, ◌&&◌}
use mathlib.Core.List.{List, [], ◌∷◌, ◌++◌, append_assoc}
use mathlib.Core.Option.{none}
use Prim.Native.Nat.{ℕ, ◌<◌}
use native.Mathlib.Omega.{arith}
use lib.Seq.{append_snoc}
use lib.Dec.{eqb}
use Rattle.laws.specs.Places.{count}
use Rattle.laws.specs.Relation.{Rel, Table}
use Rattle.laws.specs.Dict.{Answer}
use Rattle.laws.specs.inner.Steps.{Steps}
use Rattle.laws.proofs.Tests.{eq?, and-iff, same-iff, so-eq}
use Rattle.laws.proofs.Places.{count-here, count-later}
use Rattle.laws.proofs.Counts.{count-append, count-mid, cut}
use Rattle.laws.proofs.Steps.{steps-join, steps-same}
use Rattle.laws.proofs.Prefixes.{first_of}
use Rattle.rules.specs.Frame.{Frame, Good, Writer, Source}
use Rattle.rules.specs.Order.{Once, Valid}
use Rattle.rules.specs.Missing.{Sourced}
use Rattle.rules.specs.Ready.{Ready}
use Rattle.rules.specs.inner.Discipline.{Guide}
use Rattle.rules.specs.inner.EarlyStop.{Harmless, Stop, unread, covered, Failed}
use Rattle.rules.proofs.Seen.{at_most_one}
use Rattle.rules.proofs.Ready.{before-in, ready-same, valid-ready, valid-steps, valid-disciplined, full-valid}

module _ (f : Frame) (g : Good f) (K : Table) (H : Rel) (G : Guide f K H) where
  -- what c overtakes is as ready with c placed
  late : (p q s : List ℕ) (c : ℕ) (t : List ℕ) → ((y : ℕ) → count y q ≡ count y (c ∷ p)) → Harmless f p c s → Valid f K (p ++ (s ++ c ∷ t)) → Steps (Ready f H) q s
  late p q [] c t e u v = tt
  late p q (x ∷ s) c t e u v = (here, late (p ++ (x ∷ [])) (q ++ (x ∷ [])) s c t e' u' (rw append_snoc v))
    where
      r : Ready f H p x
      r = valid-ready f g K H G p x (s ++ c ∷ t) v

      other : x ≢ c
      other d = omega (arith, at_most_one f (p ++ (x ∷ (s ++ c ∷ t))) v.all c, count-append c p (x ∷ (s ++ c ∷ t)), count-here c x (s ++ c ∷ t) (sym d), count-mid s c t)

      more : (y : ℕ) → 0 < count y p → 0 < count y q
      more y h = elim (eq? y c) [ inl d ↦ omega (arith, e y, count-here y c p d) | inr d ↦ omega (arith, e y, count-later y c p d) ]

      here : Ready f H q x
      here = record {
        operation = r.operation;
        unplaced = omega (arith, e x, count-later x c p other, r.unplaced);
        after = λ y h. more y (r.after y h);
        quiet = λ S L s' w h. more L (elim (eq? S c) [
          | inl d ↦ u L x (subst (λ (S : ℕ). Source f S L) d s') w (omega (arith, count-here x x s refl))
          | inr d ↦ r.quiet S L s' w (omega (arith, e S, count-later S c p d))
        ]);
      }

      e' : (y : ℕ) → count y (q ++ (x ∷ [])) ≡ count y (c ∷ (p ++ (x ∷ [])))
      e' y = omega (arith, e y, count-append y q (x ∷ []), count-append y (c ∷ p) (x ∷ []))

      u' : Harmless f (p ++ (x ∷ [])) c s
      u' L y s' w h = omega (arith, u L y s' w (omega (arith, count-append y (x ∷ []) s)), count-append L p (x ∷ []))

  pub front : Sourced f → (p : List ℕ) (c : ℕ) (s t : List ℕ) → Ready f H p c → Harmless f p c s → Valid f K (p ++ (s ++ c ∷ t)) → Valid f K (p ++ c ∷ (s ++ t))
  front m p c s t r u v =
      full-valid f g K H G m (p ++ c ∷ (s ++ t)) once (steps-join (Ready f H) [] p (c ∷ (s ++ t)) (valid-disciplined f g K H G p (s ++ c ∷ t) v)
      (r, steps-join (Ready f H) (p ++ (c ∷ [])) s t (late p (p ++ (c ∷ [])) s c t (λ y. omega (arith, count-append y p (c ∷ []), count-append y (c ∷ []) p)) u v) tail))
    where
      once : Once f (p ++ c ∷ (s ++ t))
      once x =
          let same : count x (p ++ c ∷ (s ++ t)) ≡ count x (p ++ (s ++ c ∷ t)) = omega (arith, count-append x p (c ∷ (s ++ t)), count-append x (c ∷ []) (s ++ t), count-append x s t, count-append x p (s ++ c ∷ t), count-append x s (c ∷ t), count-append x (c ∷ []) t) in
          same ∙ v.all x

      tail : Steps (Ready f H) ((p ++ (c ∷ [])) ++ s) t
      tail =
          steps-same (Ready f H) (ready-same f H) (p ++ (s ++ (c ∷ []))) ((p ++ (c ∷ [])) ++ s) t
          (λ x. let same : count x (p ++ (s ++ (c ∷ []))) ≡ count x ((p ++ (c ∷ [])) ++ s)
          = omega (arith, count-append x p (s ++ (c ∷ [])), count-append x s (c ∷ []), count-append x (p ++ (c ∷ [])) s, count-append x p (c ∷ [])) in omega arith)
          (valid-steps f g K H G (p ++ (s ++ (c ∷ []))) t (simp append_assoc v))

module _ (f : Frame) (g : Good f) (K : Table) (H : Rel) (G : Guide f K H) (m : Sourced f) (p : List ℕ) (F : ℕ → Type 0) (r : (z : ℕ) → F z → Ready f H p z) where
  -- an operation ready at p is in what follows p
  follows : (z : ℕ) → F z → (s : List ℕ) → Valid f K (p ++ s) → 0 < count z s
  follows z i s v = omega (arith, v.all z ∙ ap (λ b. cond b 1 0) (r z i).operation, count-append z p s, (r z i).unplaced)

  pub stop-moves : Stop f H p F → (s : List ℕ) → Valid f K (p ++ s) → (z : ℕ) × F z × (t : List ℕ) × Valid f K (p ++ z ∷ t)
  stop-moves (unread y i n) s v =
      let (a, b, e, _) = cut y s (follows y i s v) in
      (y, i, a ++ b, front f g K H G m p y a b (r y i) (λ L x o w h. n L o) (subst (λ (s : List ℕ). Valid f K (p ++ s)) e v))
  stop-moves (covered y i wr n) s v =
      let (z, a, b, e, u, clean) = first_of writes s y ((writes-iff y).1 (wr, refl)) (follows y i s v) in
      let (zw, za) = (writes-iff z).0 u in
      let v' = subst (λ (s : List ℕ). Valid f K (p ++ s)) e v in
      go z a b za clean v' (n z zw za (omega (arith, at_most_one f (p ++ (a ++ z ∷ b)) v'.all z, count-append z p (a ++ z ∷ b), count-mid a z b)))
    where
      -- the writers of y's address
      writes : ℕ → Bool
      writes x = f.writes x && eqb (f.address x) (f.address y)

      writes-iff : (x : ℕ) → So (writes x) ↔ (So (f.writes x) × (f.address x ≡ f.address y))
      writes-iff x = and-iff same-iff so-eq

      -- the first of them in the order is in F, and overtakes no other; one before it would be the first
      go : (z : ℕ) (a b : List ℕ) → f.address z ≡ f.address y → ((x : ℕ) → 0 < count x a → So (writes x) → ⊥) → Valid f K (p ++ (a ++ z ∷ b))
          → F z ⊎ ((w : ℕ) × Writer f w z × (count w p ≡ 0) × H w z) → (z : ℕ) × F z × (t : List ℕ) × Valid f K (p ++ z ∷ t)
      go z a b e clean v (inl j) =
          (z, j, a ++ b, front f g K H G m p z a b (r z j) (λ L x o w h. absurd (clean x h ((writes-iff x).1 (w.writes, w.same ∙ sym o.writer.same ∙ e)))) v)
      go z a b e clean v (inr (w, k, far, h)) =
          let v' : Valid f K ((p ++ a) ++ z ∷ b) = rw append_assoc v in
          let i = before-in f (p ++ a) z b v'.all w (G.sound _ v' w z h) in
          absurd (clean w (omega (arith, count-append w p a)) ((writes-iff w).1 (k.writes, k.same ∙ e)))

-- what is tried rises, so the first order of the dictionary is not passed by
pub stop-none : (f : Frame) → Good f → (K : Table) (H : Rel) → Guide f K H → Sourced f → (p : List ℕ) (F : ℕ → Type 0) → Failed f K H p F → Stop f H p F → Answer (Valid f K) p none
stop-none f g K H G m p F a h s v = let (z, i, t, w) = stop-moves f g K H G m p F a.were h s v in a.failed z i t (rw append_snoc w)

pub failed-none : (f : Frame) (K : Table) (H : Rel) (p : List ℕ) (F : ℕ → Type 0) → ((z : ℕ) → F z → ⊥) → Failed f K H p F
failed-none f K H p F n = record { were = λ z i. absurd (n z i); failed = λ z i. absurd (n z i) }

pub failed-more : (f : Frame) (K : Table) (H : Rel) (p : List ℕ) (F F' : ℕ → Type 0) (i : ℕ) → Failed f K H p F → Ready f H p i → Answer (Valid f K) (p ++ (i ∷ [])) none
    → ((z : ℕ) → F' z → (z ≡ i) ⊎ F z) → Failed f K H p F'
failed-more f K H p F F' i h r a n = record {
  were = λ z j. elim (n z j) [ inl e ↦ subst (Ready f H p) (sym e) r | inr k ↦ h.were z k ];
  failed = λ z j. elim (n z j) [ inl e ↦ subst (λ (z : ℕ). Answer (Valid f K) (p ++ (z ∷ [])) none) (sym e) a | inr k ↦ h.failed z k ];
}

pub load-stop : (f : Frame) (H : Rel) (p : List ℕ) (c : ℕ) → (So (f.writes c) → ⊥) → Stop f H p (λ z. z ≡ c)
load-stop f H p c n = unread c refl (λ L s. absurd (n s.writer.writes))

pub unread-stop : (f : Frame) (H : Rel) (p : List ℕ) (c : ℕ) → ((L : ℕ) → Source f c L → 0 < count L p) → Stop f H p (λ z. z ≡ c)
unread-stop f H p c n = unread c refl n

-- one that H puts before every other unplaced writer of its address
pub first-stop : (f : Frame) (H : Rel) (p : List ℕ) (c : ℕ) → So (f.writes c) → count c p ≡ 0 → ((x : ℕ) → Writer f x c → count x p ≡ 0 → H c x) → Stop f H p (λ z. z ≡ c)
first-stop f H p c w k n = covered c refl w (λ z zw e u. elim (eq? z c) [
  | inl d ↦ inl d
  | inr d ↦ inr (c, record { writes = w; same = sym e; other = λ q. d (sym q) }, k, n z (record { writes = zw; same = e; other = d }) u)
])

pub no-choice : (f : Frame) → Good f → (K : Table) (H : Rel) → Guide f K H → Sourced f → (p : List ℕ) (c : ℕ) → Ready f H p c → Stop f H p (λ z. z ≡ c)
    → (s : List ℕ) → Valid f K (p ++ s) → (t : List ℕ) × Valid f K (p ++ c ∷ t)
no-choice f g K H G m p c r h s v =
    let (z, e, t, w) = stop-moves f g K H G m p (λ z. z ≡ c) (λ z e. subst (Ready f H p) (sym e) r) h s v in
    (t, subst (λ (z : ℕ). Valid f K (p ++ z ∷ t)) e w)
