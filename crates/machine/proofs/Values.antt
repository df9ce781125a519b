-- A run to the end reaches memory in a valid order.
--
--   goes-prefix == what reached memory stays at the front
--   sees-now    == what a load gets as it runs is what it must read in the order of the whole run
--   run-valid   == the operations in the order in which they reached memory are a valid order
use mathlib.Core.Path.{◌≡◌, refl, sym, ap, ◌∙◌, subst}
use mathlib.Core.Logic.{◌⊎◌, inl, inr}
use mathlib.Core.Bool.{So, false≢true}
use mathlib.Core.List.{List, [], ◌∷◌, ◌++◌, append-nil, append_assoc}
use Prim.Native.Nat.{ℕ, ◌≤◌, ◌<◌}
use native.Mathlib.Omega.{arith}
use lib.ListN.{length}
use lib.Seq.{append_snoc}
use Rattle.laws.specs.Places.{pos, count, Before}
use Rattle.laws.specs.Relation.{Table}
use Rattle.laws.proofs.Tests.{eq?, test}
use Rattle.laws.proofs.Places.{count-later, pos-lt}
use Rattle.laws.proofs.Prefixes.{pos-in, pos-out}
use Rattle.rules.specs.Frame.{Good}
use Rattle.rules.specs.Order.{Visible, Sees, nobody, latest, Keeps, Once, Valid}
use Rattle.rules.proofs.Ready.{in-before, before-in}
use Rattle.machine.proofs.History.{◌∈◌, Cores, Own, Stored, Got, buffered, stored, initial, Run, Go, through, enters, empties, Goes, done, more, Ended, Laws}
use Rattle.machine.proofs.Snoc.{in?}
use Rattle.machine.proofs.Invariant.{Sound, nothing-sound, go-sound, goes-sound, ran-before, waits-store}

module _ (B : Cores) where
  go-prefix : {r p r' p' : List ℕ} {c : ℕ} → Go B r p c r' p' → (s : List ℕ) × (p' ≡ p ++ s)
  go-prefix (through x g t) = (x ∷ [], refl)
  go-prefix {p} (enters x g t) = ([], sym (append-nil p))
  go-prefix (empties x g) = (x ∷ [], refl)

  pub goes-prefix : {r p r' p' ss : List ℕ} → Goes B r p ss r' p' → (s : List ℕ) × (p' ≡ p ++ s)
  goes-prefix {p} done = ([], sym (append-nil p))
  goes-prefix {p} (more g h) =
      let (a, e) = go-prefix g in
      let (b, q) = goes-prefix h in
      (a ++ b, q ∙ ap (λ l. l ++ b) e ∙ simp append_assoc)

module _ (B : Cores) (good : Good B.frame) (K : Table) (l : Laws B K) (xs : List ℕ) (o : Once B.frame xs) (k : Keeps K xs) where
  module _ {r p : List ℕ} (s : Sound B K r p) (L : ℕ) (g : Run B r p L) (rest : List ℕ) (e : xs ≡ p ++ L ∷ rest) where
    once-here : Once B.frame (p ++ L ∷ rest)
    once-here = subst (Once B.frame) e o

    -- what reached memory before L is before it in the list, and nothing else is
    in_p : (S : ℕ) → Before xs S L → S ∈ p
    in_p S b = before-in B.frame p L rest once-here S (subst (λ (l : List ℕ). Before l S L) e b)

    p-in : (S : ℕ) → S ∈ p → Before xs S L
    p-in S h = subst (λ (l : List ℕ). Before l S L) (sym e) (in-before B.frame p L rest once-here S h)

    at_p : (S : ℕ) → S ∈ p → pos xs S ≡ pos p S
    at_p S h = ap (λ (l : List ℕ). pos l S) e ∙ pos-in S p (L ∷ rest) h

    past-p : (S : ℕ) → count S p ≡ 0 → length p ≤ pos xs S
    past-p S z = omega (arith, ap (λ (l : List ℕ). pos l S) e, pos-out S p (L ∷ rest) z)

    -- a visible writer is in memory or waits in L's own buffer
    where-is : (S : ℕ) → Visible B.frame xs S L → Stored B p S L ⊎ Own B r p S L
    where-is S v = elim (in? S p) [
      | inl i ↦ inl (record { reached = i; writes = v.writer.writes; there = v.writer.same })
      | inr i ↦ elim v.early [
        | inl b ↦ absurd (omega (arith, in_p S b, i))
        | inr b ↦ inr (record { waits = record { operation = good.writes S v.writer.writes; ran = g.next S b; out = i }; core = (l.order S L b).1; there = v.writer.same })
      ]
    ]

    own-visible : (S : ℕ) → Own B r p S L → Visible B.frame xs S L
    own-visible S w = record {
      writer = record { writes = waits-store B K l s S w.waits; same = w.there; other = λ q. omega (arith, w.waits.ran, g.fresh, ap (λ (y : ℕ). count y r) q) };
      early = inr (ran-before B K l s S L w.waits.ran g.fresh w.core);
    }

    stored-visible : (S : ℕ) → Stored B p S L → Visible B.frame xs S L
    stored-visible S w = record {
      writer = record { writes = w.writes; same = w.there; other = λ q. omega (arith, s.ran S w.reached, g.fresh, ap (λ (y : ℕ). count y r) q) };
      early = inl (p-in S w.reached);
    }

    sees-now : So (B.frame.reads L) → Sees B.frame xs L (B.frame.read L)
    sees-now t = go (g.value t)
      where
        go : {v : ℕ} → Got B r p L v → Sees B.frame xs L v
        go (buffered S w q h) = latest S q (own-visible S w) (λ S' v. elim (where-is S' v) [
          | inl i ↦ omega (arith, at_p S' i.reached, pos-lt p S' i.reached, past-p S w.waits.out)
          | inr i ↦ elim (eq? S' S) [
            | inl z ↦ omega (arith, ap (pos xs) z)
            | inr d ↦
                let b : S' < S = omega (arith, h S' i, d) in
                omega (arith, k S' S (l.to-writer S' S (l.ordered S' S b (i.core ∙ sym w.core)) i.waits.operation w.waits.operation (waits-store B K l s S w.waits)))
          ]
        ])
        go (stored n S w q h) = latest S q (stored-visible S w) (λ S' v. elim (where-is S' v) [
          | inl i ↦ omega (arith, h S' i, at_p S' i.reached, at_p S w.reached)
          | inr i ↦ absurd (n S' i)
        ])
        go (initial n m q) = nobody q (λ S v. elim (where-is S v) [ inl i ↦ m S i | inr i ↦ n S i ])

  -- each load or swap that has not run yet gets what it must read
  later-sees : {r p r' ss : List ℕ} → Goes B r p ss r' xs → Sound B K r p → (L : ℕ) → So (B.frame.reads L) → count L r ≡ 0 → L ∈ r' → Sees B.frame xs L (B.frame.read L)
  later-sees done s L t z h = absurd (omega (arith, z, h))
  later-sees {r} {p} (more (through x g u) rest) s L t z h = elim (eq? L x) [
    | inl e ↦
        let (b, q) = goes-prefix B rest in
        subst (λ (L : ℕ). Sees B.frame xs L (B.frame.read L)) (sym e) (sees-now s x g b (q ∙ append_snoc p x b) (subst (λ (L : ℕ). So (B.frame.reads L)) e t))
    | inr d ↦ later-sees rest (go-sound B K l (through x g u) s) L t (count-later L x r d ∙ z) h
  ]
  later-sees {r} (more (enters x g u) rest) s L t z h = elim (eq? L x) [
    | inl e ↦ absurd (false≢true (sym u ∙ l.reads-lands x (subst (λ (L : ℕ). So (B.frame.reads L)) e t)))
    | inr d ↦ later-sees rest (go-sound B K l (enters x g u) s) L t (count-later L x r d ∙ z) h
  ]
  later-sees (more (empties x g) rest) s L t z h = later-sees rest (go-sound B K l (empties x g) s) L t z h

module _ (B : Cores) (good : Good B.frame) (K : Table) (l : Laws B K) where
  -- at the end each operation reached memory
  ended-in : {r p : List ℕ} → Ended B r p → (x : ℕ) → So (B.frame.operation x) → x ∈ p
  ended-in {r} {p} n x t = elim (in? x p) [ inl i ↦ i | inr i ↦ absurd (n.empty x (record { operation = t; ran = n.all x (good.below x t); out = i })) ]

  ended-once : {r p : List ℕ} → Sound B K r p → Ended B r p → Once B.frame p
  ended-once {r} {p} s n x = elim (test (B.frame.operation x)) [
    | inl t ↦ rw t (omega (arith, s.once x, ended-in n x t))
    | inr t ↦ rw t (elim (in? x p) [ inl i ↦ absurd (false≢true (sym t ∙ s.operation x i)) | inr i ↦ i ])
  ]

  pub run-valid : {r p ss : List ℕ} → Goes B [] [] ss r p → Ended B r p → Valid B.frame K p
  unfolding count
  run-valid {r} {p} h n =
      let s = goes-sound B K l h (nothing-sound B K) in
      let o = ended-once s n in
      let k : Keeps K p = λ x y t. s.kept x y t (ended-in n y (l.kept_second x y t)) in
      record {
        all = o;
        kept = k;
        value = λ L t. later-sees B good K l p o k h (nothing-sound B K) L t refl (n.all L (good.below L (good.reads L t)));
      }
