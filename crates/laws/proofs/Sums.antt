-- Sums over the numbers below a bound.
--
--   sum-le, sum-cong, sum_bound    == sums of summands that are no greater, the same, bounded
--   sum_same                       == no summand falls and the sum does not rise: none rises
--   sum_bump                       == one summand is one more, so the sum is
--   num-le, num-le⁻¹, num-one      == a test as a number
use mathlib.Core.Path.{◌≡◌, refl}
use mathlib.Core.Logic.{◌≢◌, inl, inr}
use mathlib.Core.Bool.{Bool, true, false, So, false≢true}
use Prim.Native.Nat.{ℕ, zero, suc, ◌*◌, ◌≤◌, ◌<◌}
use native.Mathlib.Nat.{not-suc-le-zero}
use native.Mathlib.Omega.{arith}
use Rattle.laws.specs.Sums.{sum, num}
use Rattle.laws.proofs.Tests.{last?}

pub sum-le : (n : ℕ) (g h : ℕ → ℕ) → ((i : ℕ) → i < n → g i ≤ h i) → sum n g ≤ sum n h
unfolding sum
sum-le zero g h l = omega arith
sum-le (suc n) g h l = omega (arith, l n (omega arith), sum-le n g h (λ i b. l i (omega arith)))

pub sum-cong : (n : ℕ) (g h : ℕ → ℕ) → ((i : ℕ) → i < n → g i ≡ h i) → sum n g ≡ sum n h
sum-cong n g h e = omega (arith, sum-le n g h (λ i b. omega (arith, e i b)), sum-le n h g (λ i b. omega (arith, e i b)))

pub sum_bound : (n b : ℕ) (g : ℕ → ℕ) → ((i : ℕ) → i < n → g i ≤ b) → sum n g ≤ n * b
unfolding sum
sum_bound zero b g l = omega arith
sum_bound (suc n) b g l = omega (arith, l n (omega arith), sum_bound n b g (λ i h. l i (omega arith)))

pub sum_same : (n : ℕ) (g h : ℕ → ℕ) → ((i : ℕ) → i < n → g i ≤ h i) → sum n h ≤ sum n g → (i : ℕ) → i < n → h i ≤ g i
unfolding sum
sum_same zero g h l s i b = absurd (not-suc-le-zero b)
sum_same (suc n) g h l s i b =
    let l' : (i : ℕ) → i < n → g i ≤ h i = λ i b. l i (omega arith) in
    let r = sum-le n g h l' in
    let t = l n (omega arith) in
    elim (last? b) [ inl e ↦ rw e (omega arith) | inr c ↦ sum_same n g h l' (omega arith) i c ]

pub sum_bump : (n y : ℕ) (g h : ℕ → ℕ) → y < n → h y ≡ suc (g y) → ((x : ℕ) → x ≢ y → h x ≡ g x) → sum n h ≡ suc (sum n g)
unfolding sum
sum_bump zero y g h b e o = absurd (not-suc-le-zero b)
sum_bump (suc n) y g h b e o =
    elim (last? b) [
      | inl q ↦ omega (arith, sum-cong n h g (λ i l. o i (omega arith)), rw q at e)
      | inr l ↦ omega (arith, sum_bump n y g h l e o, o n (omega arith))
    ]

pub num-le : (a b : Bool) → (So a → So b) → num a ≤ num b
unfolding num
num-le true b h = rw (h refl) (omega arith)
num-le false b h = omega arith

pub num-le⁻¹ : (a b : Bool) → num a ≤ num b → So a → So b
unfolding num
num-le⁻¹ true true h t = refl
num-le⁻¹ true false h t = absurd (not-suc-le-zero h)
num-le⁻¹ false b h t = absurd (false≢true t)

pub num-one : (a : Bool) → num a ≤ 1
unfolding num
num-one true = omega arith
num-one false = omega arith
