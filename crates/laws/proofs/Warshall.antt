-- The computed chains are the chains.
--
--   memo-iff   == a kept table says what the table said, within its bounds
--   chains-iff == `chains n e` passes exactly where a chain of e leads
use mathlib.Core.Logic.{◌↔◌}
use mathlib.Core.Bool.{false, So, false≢true}
use mathlib.Core.List.{[]}
use Prim.Native.Nat.{ℕ, zero, suc, ◌<◌}
use native.Mathlib.Nat.{zero-add}
use native.Mathlib.Decide.{dec_lt}
use native.Mathlib.Omega.{arith}
use lib.ListN.{get_or}
use Rattle.laws.specs.Relation.{Rel, Table, Chain}
use Rattle.laws.specs.ListOf.{row}
use Rattle.laws.specs.Warshall.{memo, wars, chains}
use Rattle.laws.proofs.Rows.{row_at, row_out}
use Rattle.laws.proofs.Via.{Via, last, via-zero, via-more, via-rows, chain-iff-via, cell}

pub memo-iff : (n : ℕ) (e : Table) (E : Rel) → ((x y : ℕ) → E x y → (x < n) × (y < n)) → ((x y : ℕ) → x < n → y < n → So (e x y) ↔ E x y) → (x y : ℕ) → So (memo n e x y) ↔ E x y
unfolding memo
memo-iff n e E rows q x y = go (dec_lt x n) (dec_lt y n)
  where
    go : Dec (x < n) → Dec (y < n) → So (get_or (get_or (row (λ x. row (e x) 0 n) 0 n) x []) y false) ↔ E x y
    go (yes a) (yes b) = rw (row_at (λ x. row (e x) 0 n) [] 0 n x a, zero-add, row_at (e x) false 0 n y b, zero-add) (q x y a b)
    go (yes a) (no b) = rw (row_at (λ x. row (e x) 0 n) [] 0 n x a, zero-add, row_out (e x) false 0 n y (omega arith)) (λ t. absurd (false≢true t), λ t. absurd (b (rows x y t).1))
    go (no a) b = rw (row_out (λ x. row (e x) 0 n) [] 0 n x (omega arith)) (λ t. absurd (false≢true t), λ t. absurd (a (rows x y t).0))

module _ (E : Rel) (n : ℕ) (e : Table) (rows : (x y : ℕ) → E x y → (x < n) × (y < n)) (q : (x y : ℕ) → x < n → y < n → So (e x y) ↔ E x y) where
  wars-iff : (k x y : ℕ) → So (wars n e k x y) ↔ Via E k x y
  unfolding wars
  wars-iff zero x y = memo-iff n e (Via E 0) (via-rows E n rows) (λ x y a b. (λ t. last ((q x y a b).0 t), λ v. (q x y a b).1 ((via-zero E).0 v))) x y
  wars-iff (suc k) x y =
      memo-iff n _ (Via E (suc k)) (via-rows E n rows) (λ x y _ _. cell E k (wars n e k) (λ x y. (wars-iff k x y).1) (λ x y t. via-more E ((wars-iff k x y).0 t)) x y) x y

  -- all n numbers may be passed through: these are the chains
  pub chains-iff : (x y : ℕ) → So (chains n e x y) ↔ Chain E x y
  chains-iff x y = let v = chain-iff-via E n rows x y in (λ t. v.0 ((wars-iff n x y).0 t), λ c. (wars-iff n x y).1 (v.1 c))
