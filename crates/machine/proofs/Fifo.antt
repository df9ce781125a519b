-- The buffers are first in, first out: an entry goes in behind all others of its core, and the one that comes out stands before all others.
--
--   reach-tells == what a run reaches has a history
--   fifo        == a step puts an entry in last, takes the first out, or leaves the buffer alone
use mathlib.Core.Path.{◌≡◌, refl, sym, ap, ◌∙◌, subst}
use mathlib.Core.Logic.{◌≢◌, ◌↔◌, ◌⊎◌, inl, inr}
use mathlib.Core.Bool.{So, false≢true}
use mathlib.Core.List.{List, [], ◌∷◌, ◌++◌}
use mathlib.Core.Option.{some}
use Prim.Native.Nat.{ℕ, ◌<◌, ◌≤◌}
use native.Mathlib.Omega.{arith}
use Rattle.laws.specs.Places.{count}
use Rattle.laws.proofs.Tests.{test, off, eq?, test-one}
use Rattle.laws.proofs.Places.{count-here}
use Rattle.laws.proofs.Picks.{picks-same, picks-add, picks-drop}
use Rattle.trace.specs.Op.{thread}
use Rattle.trace.specs.Trace as trace
use Rattle.trace.specs.WellFormed.{well_formed}
use Rattle.trace.specs.FormFacts.{Form}
use Rattle.trace.specs.Meaning.{frame_of}
use Rattle.trace.specs.declared.Trace.{Trace}
use Rattle.trace.proofs.WellFormed.{form-iff}
use Rattle.pairs.specs.Kept.{kept_of}
use Rattle.machine.specs.declared.Machine.{Machine}
use Rattle.machine.specs.Machine.{machined, waiting, step}
use Rattle.machine.specs.Fifo.{buffer_of, Reached, begin, on}
use Rattle.machine.proofs.CoresOf.{cores_of}
use Rattle.machine.proofs.History.{◌∈◌, Waits, Go, through, enters, empties, Laws}
use Rattle.machine.proofs.Snoc.{cons-in, cons-cases, snoc-other, last-in}
use Rattle.machine.proofs.Invariant.{Sound, nothing-sound, go-sound, ran-before, not-placed}
use Rattle.machine.proofs.KeptLaws.{model-laws}
use Rattle.machine.proofs.Lockstep.{Tells, waiting-iff, step-go}
use Rattle.machine.proofs.Equal.{start-tells}

module _ (t : Trace) (w : So (well_formed t)) (m : ℕ) (k : So (machined m)) where
  form : Form t
  form = (form-iff t).0 w

  laws : Laws (cores_of m t) (kept_of m t)
  laws = model-laws m t k

  pub reach-tells : {M : Machine} → Reached t m M → (r : List ℕ) × (p : List ℕ) × Tells t m M r p × Sound (cores_of m t) (kept_of m t) r p
  reach-tells begin = ([], [], start-tells t m, nothing-sound (cores_of m t) (kept_of m t))
  reach-tells (on {M} {N} s h e) =
      let (r, p, T, S) = reach-tells h in
      let (r', p', g, T') = step-go t form m laws T S s N e in
      (r', p', T', go-sound (cores_of m t) (kept_of m t) laws g S)

  -- what a step does to a buffer
  abbrev pub Moves : List ℕ → List ℕ → Type 0
  Moves b c = (c ≡ b) ⊎ (((x : ℕ) × (c ≡ b ++ (x ∷ []))) ⊎ ((x : ℕ) × (b ≡ x ∷ c)))

  module _ {M N : Machine} {r p r' p' : List ℕ} (T : Tells t m M r p) (S : Sound (cores_of m t) (kept_of m t) r p) (T' : Tells t m N r' p') (S' : Sound (cores_of m t) (kept_of m t) r' p') (τ : ℕ) where
    -- whether a record waits is the same before and after, where its history says so
    alike : (j : ℕ) → j < t.len → (Waits (cores_of m t) r p j ↔ Waits (cores_of m t) r' p' j) → waiting t M τ j ≡ waiting t N τ j
    alike j b e =
        let f = waiting-iff t form m laws T S τ j b in
        let g = waiting-iff t form m laws T' S' τ j b in
        test-one f (λ s. let u = g.0 s in (e.1 u.0, u.1), λ u. g.1 (e.0 u.0, u.1))

    alone-same : ((j : ℕ) → Waits (cores_of m t) r p j ↔ Waits (cores_of m t) r' p' j) → buffer_of t N τ ≡ buffer_of t M τ
    alone-same e = sym (picks-same (waiting t M τ) (waiting t N τ) 0 t.len (λ j a b. alike j (omega arith) (e j)))

    -- x waits now and did not before; all else as it was
    goes_in : (x : ℕ) → x < t.len → thread (trace.at t x) ≡ τ → Waits (cores_of m t) r' p' x → ((j : ℕ) → j ≢ x → Waits (cores_of m t) r p j ↔ Waits (cores_of m t) r' p' j)
        → ((j : ℕ) → Waits (cores_of m t) r p j → thread (trace.at t j) ≡ thread (trace.at t x) → j < x) → buffer_of t N τ ≡ buffer_of t M τ ++ (x ∷ [])
    goes_in x b c v e h = picks-add (waiting t M τ) (waiting t N τ) t.len x (λ j d n. alike j d (e j n)) 0 t.len (omega arith) (omega arith) b
        ((waiting-iff t form m laws T' S' τ x b).1 (v, c))
        (λ j d s. let u = (waiting-iff t form m laws T S τ j d).0 s in h j u.0 (u.1 ∙ sym c))

    comes-out : (x : ℕ) → x < t.len → thread (trace.at t x) ≡ τ → Waits (cores_of m t) r p x → (Waits (cores_of m t) r' p' x → ⊥) → ((j : ℕ) → j ≢ x → Waits (cores_of m t) r p j ↔ Waits (cores_of m t) r' p' j)
        → ((j : ℕ) → Waits (cores_of m t) r p j → thread (trace.at t j) ≡ thread (trace.at t x) → x ≤ j) → buffer_of t M τ ≡ x ∷ buffer_of t N τ
    comes-out x b c v n e h = picks-drop (waiting t M τ) (waiting t N τ) t.len x (λ j d n. alike j d (e j n)) 0 t.len (omega arith) (omega arith) b
        ((waiting-iff t form m laws T S τ x b).1 (v, c))
        (off (λ s. n ((waiting-iff t form m laws T' S' τ x b).0 s).0))
        (λ j d s. let u = (waiting-iff t form m laws T S τ j d).0 s in h j u.0 (u.1 ∙ sym c))

    -- a record of another core leaves the buffer alone
    stays : (x : ℕ) → thread (trace.at t x) ≢ τ → ((j : ℕ) → j ≢ x → Waits (cores_of m t) r p j ↔ Waits (cores_of m t) r' p' j) → buffer_of t N τ ≡ buffer_of t M τ
    stays x c e = sym (picks-same (waiting t M τ) (waiting t N τ) 0 t.len (λ j a b. elim (eq? j x) [
      | inl d ↦
          let n : thread (trace.at t j) ≢ τ = λ q. c (ap (λ (y : ℕ). thread (trace.at t y)) (sym d) ∙ q) in
          off (λ s. n ((waiting-iff t form m laws T S τ j (omega arith)).0 s).1) ∙ sym (off (λ s. n ((waiting-iff t form m laws T' S' τ j (omega arith)).0 s).1))
      | inr d ↦ alike j (omega arith) (e j d)
    ]))

  go-fifo : {M N : Machine} {r p r' p' : List ℕ} {s : ℕ} (g : Go (cores_of m t) r p s r' p') → Tells t m M r p → Sound (cores_of m t) (kept_of m t) r p → Tells t m N r' p' → (τ : ℕ) → Moves (buffer_of t M τ) (buffer_of t N τ)
  unfolding frame_of
  go-fifo {r} {p} (through x g u) T S T' τ = inl (alone-same T S T' (go-sound (cores_of m t) (kept_of m t) laws (through x g u) S) τ both)
    where
      both : (j : ℕ) → Waits (cores_of m t) r p j ↔ Waits (cores_of m t) (x ∷ r) (p ++ (x ∷ [])) j
      both j = (
        λ v. record { operation = v.operation; ran = cons-in j x r v.ran; out = snoc-other p x j (λ e. omega (arith, g.fresh, v.ran, ap (λ (y : ℕ). count y r) e)) ∙ v.out },
        λ v.
            let d : j ≢ x = λ e. omega (arith, v.out, last-in p x, ap (λ (y : ℕ). count y (p ++ (x ∷ []))) e) in
            record { operation = v.operation; ran = elim (cons-cases j x r v.ran) [ inl e ↦ absurd (d e) | inr i ↦ i ]; out = sym (snoc-other p x j d) ∙ v.out },
      )
  go-fifo {r} {p} (enters x g u) T S T' τ = elim (test ((frame_of t).operation x)) [
    | inl o ↦ elim (eq? (thread (trace.at t x)) τ) [
      | inl c ↦ inr (inl (
        x,
        goes_in T S T' S₁ τ x g.used c
            (record { operation = o; ran = here; out = not-placed (cores_of m t) (kept_of m t) laws S x g }) both
            (λ j v e. (laws.order j x (ran-before (cores_of m t) (kept_of m t) laws S j x v.ran g.fresh e)).0),
      ))
      | inr c ↦ inl (stays T S T' S₁ τ x c both)
    ]
    | inr o ↦ inl (alone-same T S T' S₁ τ (λ j. elim (eq? j x) [
      | inl e ↦ (
        λ v. absurd (false≢true (sym o ∙ subst (λ (y : ℕ). So ((frame_of t).operation y)) e v.operation)),
        λ v. absurd (false≢true (sym o ∙ subst (λ (y : ℕ). So ((frame_of t).operation y)) e v.operation)),
      )
      | inr d ↦ both j d
    ]))
  ]
    where
      S₁ : Sound (cores_of m t) (kept_of m t) (x ∷ r) p
      S₁ = go-sound (cores_of m t) (kept_of m t) laws (enters x g u) S

      here : x ∈ (x ∷ r)
      here = omega (arith, count-here x x r refl)

      both : (j : ℕ) → j ≢ x → Waits (cores_of m t) r p j ↔ Waits (cores_of m t) (x ∷ r) p j
      both j d = (
        λ v. record { operation = v.operation; ran = cons-in j x r v.ran; out = v.out },
        λ v. record { operation = v.operation; ran = elim (cons-cases j x r v.ran) [ inl e ↦ absurd (d e) | inr i ↦ i ]; out = v.out },
      )
  go-fifo {r} {p} (empties x g) T S T' τ = elim (eq? (thread (trace.at t x)) τ) [
    | inl c ↦ inr (inr (x, comes-out T S T' S₁ τ x (S.under x g.waits.ran) c g.waits (λ v. omega (arith, v.out, last-in p x)) both (λ j v e. g.oldest j v e)))
    | inr c ↦ inl (stays T S T' S₁ τ x c both)
  ]
    where
      S₁ : Sound (cores_of m t) (kept_of m t) r (p ++ (x ∷ []))
      S₁ = go-sound (cores_of m t) (kept_of m t) laws (empties x g) S

      both : (j : ℕ) → j ≢ x → Waits (cores_of m t) r p j ↔ Waits (cores_of m t) r (p ++ (x ∷ [])) j
      both j d = (
        λ v. record { operation = v.operation; ran = v.ran; out = snoc-other p x j d ∙ v.out },
        λ v. record { operation = v.operation; ran = v.ran; out = sym (snoc-other p x j d) ∙ v.out },
      )

  pub fifo : {M N : Machine} → Reached t m M → (s : ℕ) → step t m M s ≡ some N → (τ : ℕ) → Moves (buffer_of t M τ) (buffer_of t N τ)
  fifo {M} {N} h s e τ =
      let (r, p, T, S) = reach-tells h in
      let (r', p', g, T') = step-go t form m laws T S s N e in
      go-fifo g T S T' τ
