-- Lost cores: what the test says, and what its loops learn.
--
--   shows-past  == past the array only thread 0 appears
--   whole-more  == a thread more in the row of those that appear
--   appears-iff == some record is of the thread
--   lost-iff    == of a well formed trace: no core is lost exactly where each lower thread appears
use mathlib.Core.Path.{◌≡◌, refl, sym, ap, ◌∙◌}
use mathlib.Core.Logic.{◌↔◌, inl, inr}
use mathlib.Core.Bool.{Bool, true, false, ◌&&◌, So, false≢true}
use Prim.Native.Nat.{ℕ, ◌+◌, ◌<◌, ◌≤◌}
use native.Mathlib.Omega.{arith}
use native.Mathlib.Numerals.{add-one}
use lib.Dec.{eqb}
use lib.ListN.{length}
use Rattle.laws.specs.Tests.{any, all}
use Rattle.laws.proofs.Tests.{off, test, and-iff, not_iff, so-eq, all-iff, any-iff}
use Rattle.laws.proofs.Loops.{any-stops, any-past}
use Rattle.trace.specs.Bounds.{RECORDS, THREADS}
use Rattle.trace.specs.Op.{thread}
use Rattle.trace.specs.Trace.{at}
use Rattle.trace.specs.WellFormed.{well_formed}
use Rattle.trace.specs.Cores.{shows, all_show, lost, Appears, Whole}
use Rattle.trace.specs.declared.Op.{Op}
use Rattle.trace.specs.declared.Trace.{Trace}
use Rattle.trace.proofs.Places.{at-past}
use Rattle.trace.proofs.WellFormed.{form-iff}

module _ (t : Trace) (τ : ℕ) where
  pub appears-iff : So (shows t τ) ↔ Appears t τ
  unfolding shows
  appears-iff = any-iff (λ x. so-eq)

  -- the array has ended, and the trace goes on: a load of thread 0 stands there
  pub shows-past : length t.records ≡ RECORDS → (i : ℕ) → RECORDS ≤ i → i < t.len → any i (λ x. eqb (thread (at t x)) τ) ≡ false → eqb τ 0 ≡ shows t τ
  unfolding shows
  shows-past full i h l none = elim (test (eqb τ 0)) [
    | inl e ↦ e ∙ sym (any-stops (λ x. eqb (thread (at t x)) τ) t.len i l (so-eq.1 (ap (λ (o : Op). thread o) (at-past t full i h) ∙ sym (so-eq.0 e))))
    | inr e ↦ e ∙ sym (any-past (λ x. eqb (thread (at t x)) τ) i t.len none (λ k g. off (λ s. false≢true (sym e ∙ so-eq.1 (sym (so-eq.0 s) ∙ ap (λ (o : Op). thread o) (at-past t full k (omega arith)))))))
  ]

-- a thread more in the row of those that all appear
pub whole-more : (t : Trace) (i : ℕ) → (all_show t i && shows t i) ≡ all_show t (i + 1)
unfolding all_show all
whole-more t i = rw add-one (go (shows t i) (all i (shows t)))
  where
    go : (b w : Bool) → (w && b) ≡ elim b [ true ↦ w | false ↦ false ]
    go true true = refl
    go true false = refl
    go false true = refl
    go false false = refl

-- a thread below the bound appears, and not all lower ones do
says : (t : Trace) → So (lost t) ↔ ((τ : ℕ) × (τ < THREADS) × (Appears t τ × (((σ : ℕ) → σ < τ → Appears t σ) → ⊥)))
unfolding lost all_show
says t = any-iff (λ τ. and-iff (appears-iff t τ) (not_iff (all-iff (λ σ. appears-iff t σ))))

pub lost-iff : (t : Trace) → So (well_formed t) → (lost t ≡ false) ↔ Whole t
lost-iff t w = (λ e τ σ l a. whole e τ σ l a, λ h. off (λ s. let p = (says t).0 s in p.2.1 (λ σ l. h p.0 σ l p.2.0)))
  where
    whole : lost t ≡ false → (τ σ : ℕ) → σ < τ → Appears t τ → Appears t σ
    whole e τ σ l a =
        let b = (((form-iff t).0 w).used a.0 a.1).keeps.thread-below in
        let q = a.2 in
        elim (test (shows t σ)) [
          | inl s ↦ (appears-iff t σ).0 s
          | inr s ↦ absurd (false≢true (sym e ∙ (says t).1 (τ, omega arith, (a, λ h. false≢true (sym s ∙ (appears-iff t σ).1 (h σ l))))))
        ]
