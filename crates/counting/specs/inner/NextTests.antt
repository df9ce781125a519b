-- The plain search as its functions see it: by sets and rows.
--
--   waiting_own own placed c S  == S writes c's address, is earlier in its program order, and is not placed
--   last_waiting n own placed c == the last such S below n; RECORDS where there is none
--   RightBy ..             == c's read is right: where own writers wait, it reads from the last of them; otherwise it is served
--   Nexts ..               == c may be placed next
--   feeds .. c             == c is served once y is placed, where `placed` has y already
--   Fed .. next            == next is the set of those
use Rattle.std.specs.Prelude.{◌≡◌, ◌↔◌, ◌⊎◌, Bool, false, not, ◌&&◌, ◌||◌, List, ℕ, length}
use Rattle.std.proofs.Math.Bool.{So}
use Rattle.laws.specs.Latest.{last_of}
use Rattle.trace.specs.Bounds.{RECORDS}
use Rattle.rows.specs.Bounds.{WORDS}
use Rattle.rows.specs.Rows.{bit}
use Rattle.rows.specs.Within.{Within}

unfoldable pub waiting_own : List ℕ → List ℕ → ℕ → ℕ → Bool
waiting_own own placed c S = bit own c S && not (bit placed 0 S)

unfoldable pub last_waiting : ℕ → List ℕ → List ℕ → ℕ → ℕ
last_waiting n own placed c = last_of (waiting_own own placed c) (λ S. S) RECORDS n

abbrev pub RightBy : ℕ → List ℕ → List ℕ → List ℕ → List ℕ → ℕ → Type 0
RightBy n own fed placed served c =
    (Within own c placed 0 × So (bit served 0 c)) ⊎ ((Within own c placed 0 → ⊥) × So (bit fed (last_waiting n own placed c) c))

pub record Nexts (n : ℕ) (operations reads partners own fed placed served : List ℕ) (c : ℕ) : Type 0 where
  pub operation : So (bit operations 0 c)
  pub unplaced : bit placed 0 c ≡ false
  pub after : Within partners c placed 0
  pub right : So (bit reads 0 c) → RightBy n own fed placed served c

unfoldable pub feeds : List ℕ → List ℕ → List ℕ → List ℕ → ℕ → ℕ → Bool
feeds fed rivals placed served y c = (bit fed y c || (bit served 0 c && not (bit rivals y c))) && not (bit placed 0 c)

pub record Fed (fed rivals placed served : List ℕ) (y : ℕ) (next : List ℕ) : Type 0 where
  pub long : length next ≡ WORDS
  pub has : (c : ℕ) → So (bit next 0 c) ↔ So (feeds fed rivals placed served y c)
