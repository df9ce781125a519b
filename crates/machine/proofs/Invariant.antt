-- What holds all along a run.
--
--   Sound B K r p == what holds of the records that ran and the operations that reached memory
--   go-sound, goes-sound == every step keeps it
use mathlib.Core.Path.{◌≡◌, sym, ap, ◌∙◌, subst}
use mathlib.Core.Logic.{inl, inr}
use mathlib.Core.Bool.{false, So, false≢true}
use mathlib.Core.List.{List, [], ◌∷◌, ◌++◌}
use Prim.Native.Nat.{ℕ, ◌≤◌, ◌<◌}
use native.Mathlib.Omega.{arith}
use Rattle.laws.specs.Places.{count, Before}
use Rattle.laws.specs.Relation.{Table}
use Rattle.laws.proofs.Tests.{eq?, test, three}
use Rattle.laws.proofs.Places.{count-here, count-later}
use Rattle.machine.proofs.History.{◌∈◌, Cores, Waits, Run, Empty, Go, through, enters, empties, Goes, done, more, Laws}
use Rattle.machine.proofs.Snoc.{in-snoc, last-in, snoc-other, snoc-last, snoc-cases, snoc-before, before_last, cons-in, cons-cases, in?}

pub record Sound (B : Cores) (K : Table) (r p : List ℕ) : Type 0 where
  pub few : (x : ℕ) → count x r ≤ 1
  pub once : (x : ℕ) → count x p ≤ 1
  pub under : (x : ℕ) → x ∈ r → x < B.frame.records
  pub ran : (x : ℕ) → x ∈ p → x ∈ r
  pub operation : (x : ℕ) → x ∈ p → So (B.frame.operation x)
  pub landed : (x : ℕ) → x ∈ r → So (B.lands x) → x ∈ p
  pub closed : (w x : ℕ) → x ∈ r → So (B.frame.earlier w x) → w ∈ r
  pub fences : (w z : ℕ) → z ∈ r → B.frame.operation z ≡ false → So (B.frame.earlier w z) → So (B.frame.operation w) → w ∈ p
  pub kept_in : (x y : ℕ) → So (K x y) → y ∈ p → x ∈ p
  pub kept : (x y : ℕ) → So (K x y) → y ∈ p → Before p x y

pub nothing-sound : (B : Cores) (K : Table) → Sound B K [] []
unfolding count
nothing-sound B K = record {
  few = λ x. omega arith;
  once = λ x. omega arith;
  under = λ x h. absurd (omega arith);
  ran = λ x h. absurd (omega arith);
  operation = λ x h. absurd (omega arith);
  landed = λ x h. absurd (omega arith);
  closed = λ w x h. absurd (omega arith);
  fences = λ w z h. absurd (omega arith);
  kept_in = λ x y k h. absurd (omega arith);
  kept = λ x y k h. absurd (omega arith);
}

module _ (B : Cores) (K : Table) (l : Laws B K) where
  -- what ran and did not reach memory waits, and writes
  pub waits-off : {r p : List ℕ} → Sound B K r p → (x : ℕ) → Waits B r p x → B.lands x ≡ false
  waits-off s x w = elim (test (B.lands x)) [ inl t ↦ absurd (omega (arith, s.landed x w.ran t, w.out)) | inr t ↦ t ]

  pub waits-store : {r p : List ℕ} → Sound B K r p → (x : ℕ) → Waits B r p x → So (B.frame.writes x)
  waits-store s x w = l.waits-writes x w.operation (waits-off s x w)

  -- of two records of a core the one that ran is the earlier one, where the other did not
  pub ran-before : {r p : List ℕ} → Sound B K r p → (w x : ℕ) → w ∈ r → count x r ≡ 0 → B.thread w ≡ B.thread x → So (B.frame.earlier w x)
  ran-before {r} s w x h z e = elim (three w x) [
    | inl b ↦ l.ordered w x b e
    | inr b ↦ elim b [
      | inl q ↦ absurd (omega (arith, h, z, ap (λ (y : ℕ). count y r) q))
      | inr c ↦ absurd (omega (arith, z, s.closed x w h (l.ordered x w c (sym e))))
    ]
  ]

  module _ {r p : List ℕ} (s : Sound B K r p) (c : ℕ) (z : count c p ≡ 0) (ready : (x : ℕ) → So (K x c) → x ∈ p) where
    kept-in-snoc : (x y : ℕ) → So (K x y) → y ∈ (p ++ (c ∷ [])) → x ∈ (p ++ (c ∷ []))
    kept-in-snoc x y k h = elim (snoc-cases p c y h) [
      | inl e ↦ in-snoc p c x (ready x (subst (λ (y : ℕ). So (K x y)) e k))
      | inr h ↦ in-snoc p c x (s.kept_in x y k h)
    ]

    kept-snoc : (x y : ℕ) → So (K x y) → y ∈ (p ++ (c ∷ [])) → Before (p ++ (c ∷ [])) x y
    kept-snoc x y k h = elim (snoc-cases p c y h) [
      | inl e ↦ subst (λ (y : ℕ). Before (p ++ (c ∷ [])) x y) (sym e) (before_last p c z x (ready x (subst (λ (y : ℕ). So (K x y)) e k)))
      | inr h ↦ snoc-before p c x y (s.kept_in x y k h) h (s.kept x y k h)
    ]

    once-snoc : (x : ℕ) → count x (p ++ (c ∷ [])) ≤ 1
    once-snoc x = elim (eq? x c) [
      | inl e ↦ omega (arith, z, snoc-last p c, ap (λ (y : ℕ). count y (p ++ (c ∷ []))) e)
      | inr d ↦ omega (arith, s.once x, snoc-other p c x d)
    ]

  module _ {r p : List ℕ} (s : Sound B K r p) (x : ℕ) (g : Run B r p x) where
    few-cons : (y : ℕ) → count y (x ∷ r) ≤ 1
    few-cons y = elim (eq? y x) [
      | inl e ↦ omega (arith, g.fresh, count-here y x r e, ap (λ (y : ℕ). count y r) e)
      | inr d ↦ omega (arith, s.few y, count-later y x r d)
    ]

    under-cons : (y : ℕ) → y ∈ (x ∷ r) → y < B.frame.records
    under-cons y h = elim (cons-cases y x r h) [ inl e ↦ omega (arith, g.used) | inr k ↦ s.under y k ]

    closed-cons : (w y : ℕ) → y ∈ (x ∷ r) → So (B.frame.earlier w y) → w ∈ (x ∷ r)
    closed-cons w y h e = elim (cons-cases y x r h) [
      | inl q ↦ cons-in w x r (g.next w (subst (λ (y : ℕ). So (B.frame.earlier w y)) q e))
      | inr k ↦ cons-in w x r (s.closed w y k e)
    ]

    -- a fence runs where nothing waits, so that every operation before it reached memory
    fences-cons : (w z : ℕ) → z ∈ (x ∷ r) → B.frame.operation z ≡ false → So (B.frame.earlier w z) → So (B.frame.operation w) → w ∈ p
    fences-cons w z h o e t = elim (cons-cases z x r h) [
      | inl q ↦ elim (in? w p) [
        | inl i ↦ i
        | inr i ↦
            let e' : So (B.frame.earlier w x) = subst (λ (z : ℕ). So (B.frame.earlier w z)) q e in
            absurd (g.alone (inl (ap B.frame.operation (sym q) ∙ o)) w (l.order w x e').1 (record { operation = t; ran = g.next w e'; out = i }))
      ]
      | inr k ↦ s.fences w z k o e t
    ]

    pub not-placed : count x p ≡ 0
    not-placed = elim (in? x p) [ inl i ↦ absurd (omega (arith, s.ran x i, g.fresh)) | inr i ↦ i ]

    run-ready : So (B.lands x) → (w : ℕ) → So (K w x) → w ∈ p
    run-ready t w k = elim (in? w p) [
      | inl i ↦ i
      | inr i ↦
          let e = l.kept-early w x k in
          let h = g.next w e in
          elim (l.kept-why w x k) [
            | inl u ↦ absurd (g.alone (inr (u, t)) w (l.order w x e).1 (record { operation = l.kept-first w x k; ran = h; out = i }))
            | inr v ↦ elim v [
              | inl u ↦ s.landed w h u
              | inr b ↦ s.fences w b.0 (g.next b.0 b.2) b.3 b.1 (l.kept-first w x k)
            ]
          ]
    ]

    through-sound : So (B.lands x) → Sound B K (x ∷ r) (p ++ (x ∷ []))
    through-sound t = record {
      few = few-cons;
      once = once-snoc s x not-placed (run-ready t);
      under = under-cons;
      ran = λ y h. elim (snoc-cases p x y h) [ inl e ↦ omega (arith, count-here y x r e) | inr k ↦ cons-in y x r (s.ran y k) ];
      operation = λ y h. elim (snoc-cases p x y h) [ inl e ↦ subst (λ (y : ℕ). So (B.frame.operation y)) (sym e) (l.lands-operation x t) | inr k ↦ s.operation y k ];
      landed = λ y h u. elim (cons-cases y x r h) [ inl e ↦ subst (λ (y : ℕ). y ∈ (p ++ (x ∷ []))) (sym e) (last-in p x) | inr k ↦ in-snoc p x y (s.landed y k u) ];
      closed = closed-cons;
      fences = λ w z h o e u. in-snoc p x w (fences-cons w z h o e u);
      kept_in = kept-in-snoc s x not-placed (run-ready t);
      kept = kept-snoc s x not-placed (run-ready t);
    }

    enters-sound : B.lands x ≡ false → Sound B K (x ∷ r) p
    enters-sound t = record {
      few = few-cons;
      once = s.once;
      under = under-cons;
      ran = λ y h. cons-in y x r (s.ran y h);
      operation = s.operation;
      landed = λ y h u. elim (cons-cases y x r h) [ inl e ↦ absurd (false≢true (sym t ∙ ap B.lands (sym e) ∙ u)) | inr k ↦ s.landed y k u ];
      closed = closed-cons;
      fences = fences-cons;
      kept_in = s.kept_in;
      kept = s.kept;
    }

  module _ {r p : List ℕ} (s : Sound B K r p) (x : ℕ) (g : Empty B r p x) where
    empty-ready : (w : ℕ) → So (K w x) → w ∈ p
    empty-ready w k = elim (in? w p) [
      | inl i ↦ i
      | inr i ↦
          let e = l.order w x (l.kept-early w x k) in
          let h = s.closed w x g.waits.ran (l.kept-early w x k) in
          absurd (omega (arith, e.0, g.oldest w (record { operation = l.kept-first w x k; ran = h; out = i }) e.1))
    ]

    empties-sound : Sound B K r (p ++ (x ∷ []))
    empties-sound = record {
      few = s.few;
      once = once-snoc s x g.waits.out empty-ready;
      under = s.under;
      ran = λ y h. elim (snoc-cases p x y h) [ inl e ↦ subst (λ (y : ℕ). y ∈ r) (sym e) g.waits.ran | inr k ↦ s.ran y k ];
      operation = λ y h. elim (snoc-cases p x y h) [ inl e ↦ subst (λ (y : ℕ). So (B.frame.operation y)) (sym e) g.waits.operation | inr k ↦ s.operation y k ];
      landed = λ y h u. in-snoc p x y (s.landed y h u);
      closed = s.closed;
      fences = λ w z h o e u. in-snoc p x w (s.fences w z h o e u);
      kept_in = kept-in-snoc s x g.waits.out empty-ready;
      kept = kept-snoc s x g.waits.out empty-ready;
    }

  pub go-sound : {r p r' p' : List ℕ} {c : ℕ} → Go B r p c r' p' → Sound B K r p → Sound B K r' p'
  go-sound (through x g t) s = through-sound s x g t
  go-sound (enters x g t) s = enters-sound s x g t
  go-sound (empties x g) s = empties-sound s x g

  pub goes-sound : {r p r' p' ss : List ℕ} → Goes B r p ss r' p' → Sound B K r p → Sound B K r' p'
  goes-sound done s = s
  goes-sound (more g h) s = goes-sound h (go-sound g s)
