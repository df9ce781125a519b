-- A relation turned round.
--
--   TurnedRound rows n before after == `after` has y, x exactly where the rows have x, y and both are below n; memory that is not of the full length stays as it was
use Rattle.std.specs.Prelude.{◌≡◌, ◌≢◌, ◌↔◌, List, ℕ, ◌<◌, length}
use Rattle.std.proofs.Math.Bool.{So}
use Rattle.rows.specs.Bounds.{CELLS}
use Rattle.rows.specs.Rows.{bit, Words}

pub record TurnedRound (rows : List ℕ) (n : ℕ) (before after : List ℕ) : Type 0 where
  pub long : length after ≡ length before
  pub words : Words after
  pub pairs : length before ≡ CELLS → (x y : ℕ) → So (bit after y x) ↔ ((y < n) × (x < n) × So (bit rows x y))
  pub other : length before ≢ CELLS → after ≡ before
