-- What may be placed next: the full lists so built are the valid orders.
--
--   waits-iff     == the test of a waiting writer says what it is to say
--   next-iff      == and so does that of an operation that may be next
--   sees-placed   == where none waits, the latest placed writer is seen
--   expected-sees == in an order what is expected is what is seen
--   valid-next, unnext-none, built-valid == a valid order is built so; what may not be next begins none; what is built so, and long enough, is a valid order
use mathlib.Core.Path.{◌≡◌, sym, ap, subst}
use mathlib.Core.Logic.{◌↔◌, inl, inr}
use mathlib.Core.Bool.{So, ◌&&◌}
use mathlib.Core.List.{List, [], ◌∷◌, ◌++◌}
use mathlib.Core.Option.{none}
use Prim.Native.Nat.{ℕ, ◌≤◌, ◌<◌}
use native.Mathlib.Omega.{arith}
use lib.Dec.{eqb, ltb}
use lib.ListN.{length, get_or}
use lib.Seq.{append_snoc}
use Rattle.laws.specs.Tests.{◌⇒◌, all}
use Rattle.laws.specs.Places.{pos, count, Before}
use Rattle.laws.specs.Relation.{Table}
use Rattle.laws.specs.Dict.{Answer}
use Rattle.laws.specs.inner.Steps.{Steps}
use Rattle.laws.specs.Latest.{Latest, nobody-yet, at}
use Rattle.laws.proofs.Tests.{and-iff, imp-iff, same-iff, all-iff, so-eq, so-lt, eq?}
use Rattle.laws.proofs.Places.{pos-lt, at-pos, pos-at, count_at}
use Rattle.laws.proofs.Latest.{latest-of}
use Rattle.laws.proofs.Counts.{count-append, count-mid, cut}
use Rattle.laws.proofs.Steps.{steps-at}
use Rattle.laws.proofs.Prefixes.{pos-in, pos-out}
use Rattle.rules.specs.Frame.{Frame, Good, Writer}
use Rattle.rules.specs.Order.{Visible, Sees, nobody, latest, Keeps, Once, Valid}
use Rattle.rules.specs.RuleTests.{writer?}
use Rattle.rules.proofs.RuleTests.{writer-iff}
use Rattle.rules.specs.Ready.{operations}
use Rattle.rules.proofs.Seen.{at_most_one, operation-there, sees-one}
use Rattle.rules.proofs.Ready.{not-before, place, in-before, before-in, due, steps-full}
use Rattle.plain.specs.Plain.{waits, so_far, expected, Next, next?, Orderly}

pub waits-iff : (f : Frame) (p : List ℕ) (c S : ℕ) → So (waits f p c S) ↔ ((Writer f S c × So (f.earlier S c)) × (count S p ≡ 0))
unfolding waits
waits-iff f p c S = and-iff (and-iff (writer-iff f S c) same-iff) so-eq

pub next-iff : (f : Frame) → Good f → (K : Table) → Orderly f K → (p : List ℕ) (c : ℕ) → So (next? f K p c) ↔ Next f K p c
unfolding next?
next-iff f g K o p c =
    let i : So (f.operation c && eqb (count c p) 0 && all f.records (λ x. K x c ⇒ ltb 0 (count x p)) && (f.reads c ⇒ eqb (f.read c) (expected f p c))) ↔ _
    = and-iff (and-iff (and-iff same-iff so-eq) (all-iff (λ x. imp-iff so-lt))) (imp-iff so-eq) in (
      λ t. let r = i.0 t in record { operation = r.0.0.0; unplaced = r.0.0.1; partners = λ x h. r.0.1 x (g.below x (o.joins x c h).0) h; right = r.1 },
      λ n. i.1 (((n.operation, n.unplaced), λ x _. n.partners x), n.right),
    )

module _ (f : Frame) (p : List ℕ) (c : ℕ) (s : List ℕ) (o : Once f (p ++ c ∷ s)) where
  pub sees-placed : ((S : ℕ) → So (waits f p c S) → ⊥) → Sees f (p ++ c ∷ s) c (so_far f p c)
  unfolding so_far
  sees-placed z = go (latest-of (λ i. writer? f (get_or p i 0) c) (λ i. f.written (get_or p i 0)) (f.first (f.address c)) (length p))
    where
      -- whom c's value is taken from is in p
      inside : (S : ℕ) → Visible f (p ++ c ∷ s) S c → 0 < count S p
      inside S d = elim (eq? (count S p) 0) [
        | inl e ↦ elim d.early [ inl b ↦ before-in f p c s o S b | inr u ↦ absurd (z S ((waits-iff f p c S).1 ((d.writer, u), e))) ]
        | inr n ↦ omega arith
      ]

      here : (S : ℕ) → Visible f (p ++ c ∷ s) S c → So (writer? f (get_or p (pos p S) 0) c)
      here S d = rw (at-pos p S (pos-lt p S (inside S d))) ((writer-iff f S c).1 d.writer)

      go : {u : ℕ} → Latest (λ i. writer? f (get_or p i 0) c) (λ i. f.written (get_or p i 0)) (f.first (f.address c)) (length p) u → Sees f (p ++ c ∷ s) c u
      go (nobody-yet q h) = nobody q (λ S d. h (pos p S) (pos-lt p S (inside S d)) (here S d))
      go (at j b q t h) =
          let S₁ = get_or p j 0 in
          let k = count_at p j b in
          let few : count S₁ p ≤ 1 = omega (arith, at_most_one f (p ++ c ∷ s) o S₁, count-append S₁ p (c ∷ s)) in
          latest S₁ q (record { writer = (writer-iff f S₁ c).0 t; early = inl (in-before f p c s o S₁ k) }) (λ S d.
          omega (arith, pos-in S p (c ∷ s) (inside S d), pos-in S₁ p (c ∷ s) k, pos-at p j b few, h (pos p S) (pos-lt p S (inside S d)) (here S d)))

module _ (f : Frame) (g : Good f) (K : Table) (k : Orderly f K) where
  pub expected-sees : (p : List ℕ) (c : ℕ) (s : List ℕ) → Once f (p ++ c ∷ s) → Keeps K (p ++ c ∷ s) → Sees f (p ++ c ∷ s) c (expected f p c)
  unfolding expected
  expected-sees p c s o q = go (latest-of (waits f p c) f.written (so_far f p c) f.records)
    where
      is : (S : ℕ) → So (waits f p c S) ↔ ((Writer f S c × So (f.earlier S c)) × (count S p ≡ 0))
      is S = waits-iff f p c S

      go : {v : ℕ} → Latest (waits f p c) f.written (so_far f p c) f.records v → Sees f (p ++ c ∷ s) c v
      go (nobody-yet e h) = rw e (sees-placed f p c s o (λ S t. h S (g.below S (g.writes S ((is S).0 t).0.0.writes)) t))
      go (at W b e t h) = latest W e (record { writer = ((is W).0 t).0.0; early = inr ((is W).0 t).0.1 }) first
        where
          -- one that is not placed waits, so it is W or before it
          far : (S : ℕ) → Visible f (p ++ c ∷ s) S c → count S p ≡ 0 → pos (p ++ c ∷ s) S ≤ pos (p ++ c ∷ s) W
          far S d z =
              let u : So (f.earlier S c) = elim d.early [ inl b ↦ absurd (omega (arith, before-in f p c s o S b)) | inr u ↦ u ] in
              let le = h S (g.below S (g.writes S d.writer.writes)) ((is S).1 ((d.writer, u), z)) in
              elim (eq? S W) [
                | inl r ↦ omega (arith, ap (pos (p ++ c ∷ s)) r)
                | inr r ↦ omega (arith, q S W (k.writers S W c d.writer ((is W).0 t).0.0 u ((is W).0 t).0.1 (omega arith)))
              ]

          first : (S : ℕ) → Visible f (p ++ c ∷ s) S c → pos (p ++ c ∷ s) S ≤ pos (p ++ c ∷ s) W
          first S d = elim (eq? (count S p) 0) [
            | inl z ↦ far S d z
            | inr z ↦ omega (arith, in-before f p c s o S (omega arith), place f p c s o, pos-out W p (c ∷ s) ((is W).0 t).1)
          ]

  pub valid-next : (p : List ℕ) (c : ℕ) (s : List ℕ) → Valid f K (p ++ c ∷ s) → Next f K p c
  valid-next p c s v = record {
    operation = operation-there f (p ++ c ∷ s) v.all c (count-mid p c s);
    unplaced = not-before f p c s v.all;
    partners = λ x t. before-in f p c s v.all x (v.kept x c t);
    right = λ r. sees-one f (p ++ c ∷ s) v.all g c _ _ (v.value c r) (expected-sees p c s v.all v.kept);
  }

  pub unnext-none : (p : List ℕ) (c : ℕ) → (Next f K p c → ⊥) → Answer (Valid f K) (p ++ (c ∷ [])) none
  unnext-none p c n s v = n (valid-next p c s (rw append_snoc at v))

  pub built-valid : (xs : List ℕ) → Steps (Next f K) [] xs → length xs ≡ operations f → Valid f K xs
  built-valid xs built l = record { all = once; kept = kept; value = value }
    where
      once : Once f xs
      once = steps-full f (Next f K) (λ p c n. (n.operation, n.unplaced)) g xs built l

      at_place : (c : ℕ) → So (f.operation c) → (p : List ℕ) × (s : List ℕ) × (xs ≡ p ++ c ∷ s) × Next f K p c
      at_place c t =
          let (p, s, e, _) = cut c xs (omega (arith, once c, due t)) in
          (p, s, e, steps-at (Next f K) [] p c s (subst (Steps (Next f K) []) e built))

      kept : Keeps K xs
      kept x y t =
          let (p, s, e, n) = at_place y (k.joins x y t).1 in
          subst (λ (l : List ℕ). Before l x y) (sym e) (in-before f p y s (subst (Once f) e once) x (n.partners x t))

      value : (L : ℕ) → So (f.reads L) → Sees f xs L (f.read L)
      value L r =
          let (p, s, e, n) = at_place L (g.reads L r) in
          subst (λ (l : List ℕ). Sees f l L (f.read L)) (sym e) (rw (n.right r) (expected-sees p L s (subst (Once f) e once) (subst (Keeps K) e kept)))
