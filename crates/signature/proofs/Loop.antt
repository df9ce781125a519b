-- What a loop over the loads of a thread needs, first load first, in 64 bits. It keeps q, the product of the open word's ranges less 1 (the product
-- itself may be 2 to the 64th), and word, the open word so far.
--
--   room-test           == whether a range still fits the open word, by a division that does not overflow
--   product-less        == the next q
--   digit-fits          == the digit's share, q * d + d, is p * d, and word with it stays at most the next q
--   lift word p ws       == the words, where word stands in front of the open one at the weight p
--   lift-same, lift-new, lift-end == the next load goes into the open word, or begins a new one; no load is left
use mathlib.Core.Path.{◌≡◌, refl, sym, ap, ◌∙◌}
use mathlib.Core.Logic.{◌↔◌}
use mathlib.Core.List.{List, [], ◌∷◌}
use Prim.Native.Nat.{ℕ, suc, ◌+◌, ◌-◌, ◌*◌, ◌/◌, ◌<◌, ◌≤◌}
use native.Mathlib.Nat.{le-div_iff_mul-le, mul-suc, mul-add, mul_comm, mul_assoc, mul-le-mul_left}
use native.Mathlib.Omega.{arith}
use lib.Dec.{leb}
use Rattle.laws.proofs.Tests.{so-le, test-one}
use Rattle.signature.specs.DigitWords.{LIMIT, onto}

-- LIMIT - r is MAX - (r - 1) in 64 bits
pub room-test : (q r : ℕ) → 0 < r → r ≤ LIMIT → (q ≤ (LIMIT - r) / r) ↔ (suc q * r ≤ LIMIT)
room-test q r h b =
    let i = le-div_iff_mul-le {k = r} {x = q} {y = LIMIT - r} h in
    (λ l. omega (arith, i.0 l, more), λ l. i.1 (omega (arith, l, more)))
  where
    more : suc q * r ≡ q * r + r
    more = mul_comm (suc q) r ∙ mul-suc r q ∙ ap (λ k. k + r) (mul_comm r q)

pub product-less : (q r : ℕ) → 0 < r → suc (q * r + (r - 1)) ≡ suc q * r
product-less q r h = omega (arith, mul_comm (suc q) r ∙ mul-suc r q ∙ ap (λ k. k + r) (mul_comm r q))

pub digit-fits : (q r d word : ℕ) → d < r → word ≤ q → (q * d + d ≡ suc q * d) × (word + (q * d + d) ≤ q * r + (r - 1))
digit-fits q r d word h b = (sym (mul_comm (suc q) d ∙ mul-suc d q ∙ ap (λ k. k + d) (mul_comm d q)), omega (arith, mul-le-mul_left q h, mul-suc q d))

abbrev pub lift : ℕ → ℕ → List ℕ → List ℕ
lift word p [] = []
lift word p (w ∷ ws) = (word + p * w) ∷ ws

pub lift-same : (word p d r : ℕ) (ws : List ℕ) → lift word p (onto d r ws) ≡ lift (word + p * d) (p * r) ws
lift-same word p d r [] = refl
lift-same word p d r (w ∷ ws) = ap (λ v. v ∷ ws) (omega (arith, spread, mul_assoc p r w))
  where
    spread : p * (d + r * w) ≡ p * d + p * (r * w)
    spread = mul-add p d (r * w)

pub lift-new : (word p d r : ℕ) (ws : List ℕ) → lift word p (0 ∷ onto d r ws) ≡ word ∷ lift d r ws
lift-new word p d r [] = ap (λ v. v ∷ []) (omega arith)
lift-new word p d r (w ∷ ws) = ap (λ v. v ∷ (d + r * w) ∷ ws) (omega arith)

pub lift-end : (word p : ℕ) → lift word p (0 ∷ []) ≡ word ∷ []
lift-end word p = ap (λ v. v ∷ []) (omega arith)

-- the same as a test
pub room-same : (q r : ℕ) → 0 < r → r ≤ LIMIT → leb q ((LIMIT - 1 - (r - 1)) / r) ≡ leb (suc q * r) LIMIT
room-same q r h b =
    let e : LIMIT - 1 - (r - 1) ≡ LIMIT - r = omega arith in
    ap (λ (n : ℕ). leb q (n / r)) e ∙ test-one (so-le {m = q} {n = (LIMIT - r) / r}) (λ s. (room-test q r h b).1 (so-le.0 s), λ l. so-le.1 ((room-test q r h b).0 l))
