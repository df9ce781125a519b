-- Which operation may come next, and when the loop may stop, as the functions see it: by sets and rows.
--
--   Waits .. c L == L is at the address that c writes, its source is placed, and it is not
--   Quiet .. c   == nobody waits there
--   MayCome .. c == what must be before c is placed, and nobody waits at the address that it writes
--   Readied .. c == c is an unplaced operation, and may come
--   Unread .. y  == everybody who reads from y is placed
--   Still .. y z == z is a writer of y's address, other than y, that is neither placed nor failed
--   Covered .. y == each such writer has another writer of that address before it that is not placed
--   Enough .. y  == one of the two: any valid order could go on with one that failed
--   Stops .. y   == the loop may stop after y: enough has failed, or nothing can go on
use Rattle.std.specs.Prelude.{◌≡◌, ◌⊎◌, List, ℕ, ◌<◌, get_or}
use Rattle.std.proofs.Math.Bool.{So}
use Rattle.rows.specs.Rows.{bit}
use Rattle.rows.specs.Within.{Within}
use Rattle.search.specs.inner.Refutation.{Refuted}

pub record Waits (readers sources placed : List ℕ) (c L : ℕ) : Type 0 where
  pub there : So (bit readers c L)
  pub due : So (bit placed 0 (get_or sources L 0))
  pub unplaced : So (bit placed 0 L) → ⊥

abbrev pub Quiet : ℕ → List ℕ → List ℕ → List ℕ → ℕ → Type 0
Quiet n readers sources placed c = (L : ℕ) → L < n → Waits readers sources placed c L → ⊥

pub record MayCome (n : ℕ) (before readers sources placed : List ℕ) (c : ℕ) : Type 0 where
  pub after : Within before c placed 0
  pub quiet : Quiet n readers sources placed c

pub record Readied (n : ℕ) (operations before readers sources placed : List ℕ) (c : ℕ) : Type 0 where
  pub operation : So (bit operations 0 c)
  pub unplaced : So (bit placed 0 c) → ⊥
  pub free : MayCome n before readers sources placed c

abbrev pub Unread : ℕ → List ℕ → List ℕ → List ℕ → ℕ → Type 0
Unread n readers sources placed y = (L : ℕ) → L < n → So (bit readers y L) → get_or sources L 0 ≡ y → So (bit placed 0 L)

pub record Still (writers placed failed : List ℕ) (y z : ℕ) : Type 0 where
  pub writer : So (bit writers y z)
  pub unplaced : So (bit placed 0 z) → ⊥
  pub untried : So (bit failed 0 z) → ⊥

abbrev pub Covered : List ℕ → List ℕ → List ℕ → List ℕ → ℕ → Type 0
Covered before writers placed failed y = (z : ℕ) → Still writers placed failed y z → (w : ℕ) × So (bit before z w) × So (bit writers z w) × (So (bit placed 0 w) → ⊥)

abbrev pub Enough : ℕ → List ℕ → List ℕ → List ℕ → List ℕ → List ℕ → List ℕ → ℕ → Type 0
Enough n before writers readers sources placed failed y = Unread n readers sources placed y ⊎ Covered before writers placed failed y

abbrev pub Stops : ℕ → List ℕ → List ℕ → List ℕ → List ℕ → List ℕ → List ℕ → ℕ → Type 0
Stops n before writers readers sources placed failed y = Enough n before writers readers sources placed failed y ⊎ Refuted n before writers sources placed
