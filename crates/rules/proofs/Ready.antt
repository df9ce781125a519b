-- The valid orders are the disciplined lists of full length, and of a disciplined list only the set counts.
--
--   not-before, place, in-before, before-in == where things stand in p, c and what follows, where each operation stands there once
--   valid-sized                             == a valid order has all operations, and nothing else
--   ready-same, served-step                 == readiness looks at what is placed as a set; one step serves the readers of what it places
--   due, not-due                            == how often an operation must stand in an order, and anything else
--   steps-few, steps-full                   == a list built by placing operations that are not placed yet has none twice; if it is long enough, it has them all
--   disciplined-few, disciplined-full       == so has a disciplined list
--   held-guide, edge-guide, chains-guide    == what is held guides the search; so do the edges of rules 1 to 5, and the chains of any round
--   valid-ready, unready-none               == in a valid order each operation is ready in its turn; what is not ready begins none
--   valid-steps, valid-disciplined          == so a valid order is disciplined, and so is each first part of it
--   full-valid, exactly                     == a full disciplined list is a valid order; these are the valid orders
--   exchange, exchange-none                 == two disciplined lists of the same operations go on to valid orders in the same ways, or in none
use mathlib.Core.Path.{◌≡◌, refl, sym, ap, ◌∙◌, subst}
use mathlib.Core.Logic.{◌↔◌, ◌⊎◌, inl, inr}
use mathlib.Core.Bool.{Bool, false, cond, So, false≢true}
use mathlib.Core.List.{List, [], ◌∷◌, ◌++◌, append-nil}
use mathlib.Core.Option.{none}
use Prim.Native.Nat.{ℕ, suc, ◌≤◌, ◌<◌}
use native.Mathlib.Decide.{dec_lt}
use native.Mathlib.Omega.{arith}
use lib.ListN.{length}
use lib.Seq.{append_snoc}
use Rattle.laws.specs.Places.{pos, count, Before}
use Rattle.laws.specs.Relation.{Rel, Table, ◌⊆◌, one}
use Rattle.laws.specs.Dict.{Answer}
use Rattle.laws.specs.inner.TryingInTurn.{ListsOf}
use Rattle.laws.specs.inner.Steps.{Steps, Same}
use Rattle.laws.proofs.Tests.{test, off, eq?}
use Rattle.laws.proofs.Places.{pos-here, pos-lt, count-here, count-later}
use Rattle.laws.proofs.Sums.{sum_same, sum-cong}
use Rattle.laws.proofs.Counts.{count-append, count-sum, count-mid, cut}
use Rattle.laws.proofs.Steps.{steps-at, steps_first, steps-join, steps-same}
use Rattle.laws.proofs.Prefixes.{pos-in, pos-out}
use Rattle.rules.specs.Frame.{Frame, Good, Writer, Source}
use Rattle.rules.specs.Order.{Once, Valid}
use Rattle.rules.specs.Rules.{Chains, Edge, Held, nothing, Joins}
use Rattle.rules.specs.Missing.{Sourced}
use Rattle.rules.proofs.ClearOrders.{Clear}
use Rattle.rules.proofs.Rounds.{step-mono}
use Rattle.rules.proofs.Ends.{step-joins, chains-ends}
use Rattle.rules.proofs.Sound.{source-latest, chains-sound, edge-sound, held-sound}
use Rattle.rules.proofs.Orders.{either}
use Rattle.rules.proofs.Clear.{clear-valid}
use Rattle.rules.specs.Ready.{operations, Ready}
use Rattle.rules.specs.inner.Discipline.{Disciplined, SourcePlaced, Guide}
use Rattle.rules.proofs.Seen.{at_most_one, operation-there}

module _ (f : Frame) (p : List ℕ) (c : ℕ) (s : List ℕ) (o : Once f (p ++ c ∷ s)) where
  pub not-before : count c p ≡ 0
  not-before = omega (arith, at_most_one f (p ++ c ∷ s) o c, count-append c p (c ∷ s), count-here c c s refl)

  -- c stands right after p; what is in p is before it, and what is not is not
  pub place : pos (p ++ c ∷ s) c ≡ length p
  place = omega (arith, pos-out c p (c ∷ s) not-before, pos-here c c s refl)

  pub in-before : (y : ℕ) → 0 < count y p → Before (p ++ c ∷ s) y c
  in-before y h = omega (arith, place, pos-in y p (c ∷ s) h, pos-lt p y h)

  pub before-in : (y : ℕ) → Before (p ++ c ∷ s) y c → 0 < count y p
  before-in y h = elim (eq? (count y p) 0) [ inl e ↦ absurd (omega (arith, place, pos-out y p (c ∷ s) e)) | inr d ↦ omega arith ]

pub valid-sized : (f : Frame) → Good f → (K : Table) → ListsOf (Valid f K) f.records (operations f)
unfolding operations
valid-sized f g K = record {
  long = λ xs v. sym (count-sum f.records xs (λ x h. g.below x (operation-there f xs v.all x h))) ∙ sum-cong f.records _ _ (λ x _. v.all x);
  under = λ p c s v. g.below c (operation-there f (p ++ c ∷ s) v.all c (count-mid p c s));
}

pub ready-same : (f : Frame) (H : Rel) (p q : List ℕ) (c : ℕ) → Same p q → Ready f H p c → Ready f H q c
ready-same f H p q c e r = record {
  operation = r.operation;
  unplaced = elim (eq? (count c q) 0) [ inl z ↦ z | inr n ↦ absurd (omega (arith, r.unplaced, (e c).1 (omega arith))) ];
  after = λ x h. (e x).0 (r.after x h);
  quiet = λ S L s w h. (e L).0 (r.quiet S L s w ((e S).1 h));
}

pub served-step : (f : Frame) (p : List ℕ) (c L : ℕ) → SourcePlaced f (p ++ (c ∷ [])) L ↔ (SourcePlaced f p L ⊎ Source f c L)
unfolding count
served-step f p c L = (
  λ r. elim (eq? r.0 c) [
    | inl e ↦ inr (subst (λ (S : ℕ). Source f S L) e r.1)
    | inr n ↦ inl (r.0, r.1, omega (arith, r.2, count-append r.0 p (c ∷ []), count-later r.0 c [] n))
  ],
  λ r. elim r [
    | inl t ↦ (t.0, t.1, omega (arith, t.2, count-append t.0 p (c ∷ [])))
    | inr s ↦ (c, s, omega (arith, count-append c p (c ∷ []), count-here c c [] refl))
  ],
)

pub due : {b : Bool} → So b → ◌≡◌ {A = ℕ} (cond b 1 0) 1
due t = ap (λ b. cond b 1 0) t

pub not-due : {b : Bool} → b ≡ false → ◌≡◌ {A = ℕ} (cond b 1 0) 0
not-due t = ap (λ b. cond b 1 0) t

-- of any steps that place operations which are not placed yet
module _ (f : Frame) (R : List ℕ → ℕ → Type 0) (places : (p : List ℕ) (c : ℕ) → R p c → So (f.operation c) × (count c p ≡ 0)) where
  steps-from : (q s : List ℕ) → ((x : ℕ) → count x q ≤ cond (f.operation x) 1 0) → Steps R q s → (x : ℕ) → count x (q ++ s) ≤ cond (f.operation x) 1 0
  unfolding count
  steps-from q [] h d x = rw append-nil (h x)
  steps-from q (c ∷ s) h d x = subst (λ (l : List ℕ). count x l ≤ cond (f.operation x) 1 0) (append_snoc q c s) (steps-from (q ++ (c ∷ [])) s next d.1 x)
    where
      next : (x : ℕ) → count x (q ++ (c ∷ [])) ≤ cond (f.operation x) 1 0
      next x = elim (eq? x c) [
        | inl e ↦ omega (arith, count-append x q (c ∷ []), count-here x c [] e, ap (λ x. count x q) e ∙ (places q c d.0).1, due (ap f.operation e ∙ (places q c d.0).0))
        | inr n ↦ omega (arith, count-append x q (c ∷ []), count-later x c [] n, h x)
      ]

  pub steps-few : (p : List ℕ) → Steps R [] p → (x : ℕ) → count x p ≤ cond (f.operation x) 1 0
  unfolding count
  steps-few p d = steps-from [] p (λ x. omega arith) d

  pub steps-full : Good f → (xs : List ℕ) → Steps R [] xs → length xs ≡ operations f → Once f xs
  unfolding operations
  steps-full g xs d l x = go (dec_lt x f.records)
    where
      few : (x : ℕ) → count x xs ≤ cond (f.operation x) 1 0
      few = steps-few xs d

      below : (x : ℕ) → 0 < count x xs → x < f.records
      below x h = g.below x (elim (test (f.operation x)) [ inl t ↦ t | inr t ↦ absurd (omega (arith, few x, not-due t)) ])

      go : Dec (x < f.records) → count x xs ≡ cond (f.operation x) 1 0
      go (yes h) = omega (arith, few x, sum_same f.records (λ x. count x xs) (λ x. cond (f.operation x) 1 0) (λ x _. few x) (omega (arith, count-sum f.records xs below)) x h)
      go (no h) = omega (arith, few x, not-due (off (λ t. h (g.below x t))))

pub disciplined-few : (f : Frame) (H : Rel) (p : List ℕ) → Disciplined f H p → (x : ℕ) → count x p ≤ cond (f.operation x) 1 0
disciplined-few f H = steps-few f (Ready f H) (λ p c r. (r.operation, r.unplaced))

pub disciplined-full : (f : Frame) → Good f → (H : Rel) (xs : List ℕ) → Disciplined f H xs → length xs ≡ operations f → Once f xs
disciplined-full f g H = steps-full f (Ready f H) (λ p c r. (r.operation, r.unplaced)) g

-- Kept pairs must join operations; rules/proofs/Counter.antt says why.
module _ (f : Frame) (g : Good f) (K : Table) (joins : Joins f K) where
  -- no pairs are supposed
  unsupposed : Joins f nothing
  unsupposed x y t = absurd (false≢true t)

  chains-operations : (k x y : ℕ) → Chains f K nothing k x y → So (f.operation y)
  chains-operations k x y c =
      (chains-ends f g K nothing (λ x. So (f.operation x)) (λ x. So (f.operation x)) (λ x t. t) (λ x t. t) joins unsupposed k x y c).1

  pub held-guide : Guide f K (Held f K nothing)
  held-guide = record {
    ends = λ x y h. chains-operations h.0 x y h.1;
    base = λ x y e. (1, one e);
    sound = λ xs v. held-sound f g K xs v nothing (λ x y t. absurd (false≢true t));
  }

  pub edge-guide : Guide f K (Edge f K nothing 0)
  edge-guide = record {
    ends = λ x y e. (step-joins f g K nothing joins unsupposed (Chains f K nothing 0) x y e).1;
    base = λ x y e. e;
    sound = λ xs v. edge-sound f g K xs v nothing (λ x y t. absurd (false≢true t)) 0;
  }

  pub chains-guide : (k : ℕ) → Guide f K (Chains f K nothing (suc k))
  chains-guide k = record {
    ends = chains-operations (suc k);
    base = λ x y e. one (step-mono f K nothing (λ x y b. absurd b) x y e);
    sound = λ xs v. chains-sound f g K xs v nothing (λ x y t. absurd (false≢true t)) (suc k);
  }

module _ (f : Frame) (g : Good f) (K : Table) (H : Rel) (G : Guide f K H) where
  -- to ask for readiness rules out no valid order
  pub valid-ready : (p : List ℕ) (c : ℕ) (s : List ℕ) → Valid f K (p ++ c ∷ s) → Ready f H p c
  valid-ready p c s v = record {
    operation = operation-there f (p ++ c ∷ s) v.all c (count-mid p c s);
    unplaced = not-before f p c s v.all;
    after = λ x h. before-in f p c s v.all x (G.sound (p ++ c ∷ s) v x c h);
    quiet = quiet;
  }
    where
      -- else c would stand between L and its source
      quiet : (S L : ℕ) → Source f S L → Writer f c L → 0 < count S p → 0 < count L p
      quiet S L t w h = elim (either f (p ++ c ∷ s) v.all (g.writes c w.writes) w.other) [
        | inl b ↦ absurd (omega (arith, (source-latest f g K (p ++ c ∷ s) v t).1 c (record { writer = w; early = inl b }), in-before f p c s v.all S h))
        | inr b ↦ before-in f p c s v.all L b
      ]

  pub unready-none : (p : List ℕ) (c : ℕ) → (Ready f H p c → ⊥) → Answer (Valid f K) (p ++ (c ∷ [])) none
  unready-none p c n s v = n (valid-ready p c s (rw append_snoc at v))

  pub valid-steps : (p s : List ℕ) → Valid f K (p ++ s) → Steps (Ready f H) p s
  valid-steps p [] v = tt
  valid-steps p (c ∷ s) v = (valid-ready p c s v, valid-steps (p ++ (c ∷ [])) s (rw append_snoc v))

  pub valid-disciplined : (p s : List ℕ) → Valid f K (p ++ s) → Disciplined f H p
  valid-disciplined p s v = steps_first (Ready f H) [] p s (valid-steps [] (p ++ s) v)

  -- no value is tested; that H has no circle need not be asked, for with one no list is full
  pub full-valid : Sourced f → (xs : List ℕ) → Once f xs → Disciplined f H xs → Valid f K xs
  full-valid m xs o d = clear-valid f g K xs m o (λ x y e. keeps x y (G.base x y e)) clear
    where
      -- where an operation stands, it was ready
      at : (c : ℕ) → So (f.operation c) → (p : List ℕ) × (s : List ℕ) × (xs ≡ p ++ c ∷ s) × Ready f H p c
      at c t =
          let (p, s, e, _) = cut c xs (omega (arith, o c, due t)) in
          (p, s, e, steps-at (Ready f H) [] p c s (subst (Disciplined f H) e d))

      -- so what it had before it is before it, and what is before it was there
      in-at : (c : ℕ) (p s : List ℕ) → xs ≡ p ++ c ∷ s → (y : ℕ) → 0 < count y p → Before xs y c
      in-at c p s e y h = subst (λ (l : List ℕ). Before l y c) (sym e) (in-before f p c s (subst (Once f) e o) y h)

      at_in : (c : ℕ) (p s : List ℕ) → xs ≡ p ++ c ∷ s → (y : ℕ) → Before xs y c → 0 < count y p
      at_in c p s e y h = before-in f p c s (subst (Once f) e o) y (subst (λ (l : List ℕ). Before l y c) e h)

      keeps : H ⊆ Before xs
      keeps x y h = let (p, s, e, r) = at y (G.ends x y h) in in-at y p s e x (r.after x h)

      clear : Clear f xs
      clear S S' L s w n b = elim (either f xs o (g.writes S' w.writes) n) [
        | inl h ↦ h
        | inr h ↦
            let (p, t, e, r) = at S' (g.writes S' w.writes) in
            absurd (omega (arith, in-at S' p t e L (r.quiet S L s w (at_in S' p t e S h))))
      ]

  pub exactly : Sourced f → (xs : List ℕ) → Valid f K xs ↔ (Disciplined f H xs × (length xs ≡ operations f))
  exactly m xs = (
    λ v. (valid-disciplined xs [] (rw append-nil v), (valid-sized f g K).long xs v),
    λ h. full-valid m xs (disciplined-full f g H xs h.0 h.1) h.0,
  )

  -- so a set below which there is no valid order may be remembered as a set; who wrote last need not be known
  pub exchange : Sourced f → (p q s : List ℕ) → Same p q → Disciplined f H q → Valid f K (p ++ s) → Valid f K (q ++ s)
  exchange m p q s e d v =
      full-valid m (q ++ s) once (steps-join (Ready f H) [] q s d (steps-same (Ready f H) (ready-same f H) p q s e (valid-steps p s v)))
    where
      -- none stands twice in either, so they have the same as often
      as-often : (x : ℕ) → count x q ≡ count x p
      as-often x =
          let few-p = at_most_one f (p ++ s) v.all x in
          let few-q : count x q ≤ 1 = elim (test (f.operation x)) [ inl t ↦ omega (arith, disciplined-few f H q d x, due t) | inr t ↦ omega (arith, disciplined-few f H q d x, not-due t) ] in
          elim (eq? (count x p) 0) [
            | inl z ↦ elim (eq? (count x q) 0) [ inl y ↦ omega arith | inr n ↦ absurd (omega (arith, (e x).1 (omega arith))) ]
            | inr n ↦ omega (arith, (e x).0 (omega arith), few-q, few-p, count-append x p s)
          ]

      once : Once f (q ++ s)
      once x = omega (arith, as-often x, count-append x p s, count-append x q s) ∙ v.all x

  pub exchange-none : Sourced f → (p q : List ℕ) → Same p q → Disciplined f H q → Answer (Valid f K) q none → Answer (Valid f K) p none
  exchange-none m p q e d a s v = a s (exchange m p q s e d v)
