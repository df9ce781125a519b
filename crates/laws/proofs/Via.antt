-- Chains that pass through numbers below k only: the stages of Warshall's closing.
--
--   Via E k x y                                 == a chain from x to y through numbers below k
--   via-zero, via-more, via-join, via-split     == through none; through one number more
--   via-rows                                    == a chain stays where its edges are
--   chain-iff-via                               == through all numbers: a chain
--   cell                                        == one entry of the closing, for a table anywhere between two stages
use mathlib.Core.Path.{◌≡◌, subst}
use mathlib.Core.Logic.{◌⊎◌, inl, inr, ◌↔◌}
use mathlib.Core.Bool.{So, ◌&&◌, ◌||◌}
use Prim.Native.Nat.{ℕ, suc, ◌<◌}
use native.Mathlib.Nat.{not-suc-le-zero}
use native.Mathlib.Omega.{arith}
use Rattle.laws.specs.Relation.{Rel, Table, Chain, one, more}
use Rattle.laws.proofs.Tests.{and-iff, or-iff, same-iff, last?}

-- one or more edges in a row, through numbers below k
pub data Via (E : Rel) (k : ℕ) : ℕ → ℕ → Type 0 where
  last : {x y : ℕ} → E x y → Via E k x y
  thru : {x y z : ℕ} → E x y → y < k → Via E k y z → Via E k x z

module _ (E : Rel) where
  pub via-more : {k x y : ℕ} → Via E k x y → Via E (suc k) x y
  via-more (last e) = last e
  via-more (thru e h v) = thru e (omega arith) (via-more v)

  pub via-join : {k x y z : ℕ} → Via E k x y → y < k → Via E k y z → Via E k x z
  via-join (last e) h w = thru e h w
  via-join (thru e g v) h w = thru e g (via-join v h w)

  -- through nothing: an edge
  pub via-zero : {x y : ℕ} → Via E 0 x y ↔ E x y
  via-zero {x} {y} = (only, last)
    where
      only : Via E 0 x y → E x y
      only (last e) = e
      only (thru e h v) = absurd (not-suc-le-zero h)

  -- within the edges' bounds
  pub via-rows : (n : ℕ) → ((x y : ℕ) → E x y → (x < n) × (y < n)) → {k : ℕ} (x y : ℕ) → Via E k x y → (x < n) × (y < n)
  via-rows n rows x y (last e) = rows x y e
  via-rows n rows x y (thru {y = m} e h v) = ((rows x m e).0, (via-rows n rows m y v).1)

  -- through all of them: a chain
  pub chain-iff-via : (n : ℕ) → ((x y : ℕ) → E x y → (x < n) × (y < n)) → (x y : ℕ) → Via E n x y ↔ Chain E x y
  chain-iff-via n rows x y = (via-chain, chain-via x y)
    where
      chain-via : (x y : ℕ) → Chain E x y → Via E n x y
      chain-via x y (one e) = last e
      chain-via x y (more {y = m} e c) = thru e (rows x m e).1 (chain-via m y c)

      via-chain : {x y : ℕ} → Via E n x y → Chain E x y
      via-chain (last e) = one e
      via-chain (thru e h v) = more e (via-chain v)

  -- passing through k at most: not at all, or a chain to k and one from k
  pub via-split : {k x z : ℕ} → Via E (suc k) x z → Via E k x z ⊎ (Via E k x k × Via E k k z)
  via-split (last e) = inl (last e)
  via-split {k} (thru {x} {y} {z} e h v) = go (via-split v) (last? h)
    where
      go : Via E k y z ⊎ (Via E k y k × Via E k k z) → (y ≡ k) ⊎ (y < k) → Via E k x z ⊎ (Via E k x k × Via E k k z)
      go (inl v) (inl q) = inr (subst (Via E k x) q (last e), subst (λ (y : ℕ). Via E k y z) q v)
      go (inl v) (inr l) = inl (thru e l v)
      go (inr v) (inl q) = inr (subst (Via E k x) q (last e), v.1)
      go (inr v) (inr l) = inr (thru e l v.0, v.1)

  -- The step of Warshall's loop, for a table t that lies anywhere between two stages: so it serves a table that is changed in place, cell by cell or row by row
  pub cell : (k : ℕ) (t : Table) → ((x y : ℕ) → Via E k x y → So (t x y)) → ((x y : ℕ) → So (t x y) → Via E (suc k) x y)
      → (x y : ℕ) → So (t x y || (t x k && t k y)) ↔ Via E (suc k) x y
  cell k t low high x y = (λ u. up (parts.0 u), λ v. parts.1 (down (via-split v)))
    where
      parts : So (t x y || (t x k && t k y)) ↔ (So (t x y) ⊎ (So (t x k) × So (t k y)))
      parts = or-iff same-iff (and-iff same-iff same-iff)

      up : So (t x y) ⊎ (So (t x k) × So (t k y)) → Via E (suc k) x y
      up (inl u) = high x y u
      up (inr u) = via-join (high x k u.0) (omega arith) (high k y u.1)

      down : Via E k x y ⊎ (Via E k x k × Via E k k y) → So (t x y) ⊎ (So (t x k) × So (t k y))
      down (inl v) = inl (low x y v)
      down (inr v) = inr (low x k v.0, low k y v.1)
