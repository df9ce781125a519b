-- What a loop over the numbers below a bound learns of a test over all of them, a turn at a time.
--
--   all_more, any-more   == one number more
--   all-stops, any-stops == one number settles it
--   all-fewer, any-fewer == what is known below m is known below n ≤ m
--   any-past             == none below m, and none from m on
use mathlib.Core.Path.{◌≡◌, sym, ◌∙◌}
use mathlib.Core.Bool.{Bool, false, So, false≢true}
use Prim.Native.Nat.{ℕ, ◌+◌, ◌<◌, ◌≤◌}
use native.Mathlib.Numerals.{add-one}
use native.Mathlib.Decide.{dec_lt}
use native.Mathlib.Omega.{arith}
use Rattle.laws.specs.Tests.{all, any}
use Rattle.laws.proofs.Tests.{off, so-all, so-any}

module _ (p : ℕ → Bool) where
  pub all_more : (i : ℕ) → So (all i p) → So (p i) → So (all (i + 1) p)
  unfolding all
  all_more i h e = rw (add-one, e, all) h

  pub any-more : (i : ℕ) → any i p ≡ false → p i ≡ false → any (i + 1) p ≡ false
  unfolding any
  any-more i h e = rw (add-one, e, any) h

  pub all-stops : (n i : ℕ) → i < n → p i ≡ false → all n p ≡ false
  all-stops n i h e = off (λ t. false≢true (sym e ∙ (so-all n p).0 t i h))

  pub any-stops : (n i : ℕ) → i < n → So (p i) → So (any n p)
  any-stops n i h e = (so-any n p).1 (i, h, e)

  pub all-fewer : (n m : ℕ) → n ≤ m → So (all m p) → So (all n p)
  all-fewer n m h t = (so-all n p).1 (λ i l. (so-all m p).0 t i (omega arith))

  pub any-fewer : (n m : ℕ) → n ≤ m → any m p ≡ false → any n p ≡ false
  any-fewer n m h e = off (λ t. let s = (so-any n p).0 t in false≢true (sym e ∙ any-stops m s.0 (omega arith) s.2))

  pub any-past : (m n : ℕ) → any m p ≡ false → ((i : ℕ) → m ≤ i → p i ≡ false) → any n p ≡ false
  any-past m n h e = off (λ t. let s = (so-any n p).0 t in fails s.0 s.2)
    where
      fails : (i : ℕ) → So (p i) → ⊥
      fails i s = elim (dec_lt i m) [ yes l ↦ false≢true (sym h ∙ any-stops m i l s) | no l ↦ false≢true (sym (e i (omega arith)) ∙ s) ]
