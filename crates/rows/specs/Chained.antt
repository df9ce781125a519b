-- Rows closed under chains.
--
--   Chained before after == `after` holds exactly the chains of `before`; rows that are not of the full length stay as they are
use Rattle.std.specs.Prelude.{◌≡◌, ◌≢◌, ◌↔◌, List, ℕ, length}
use Rattle.std.proofs.Math.Bool.{So}
use Rattle.laws.specs.Relation.{Chain}
use Rattle.rows.specs.Bounds.{CELLS}
use Rattle.rows.specs.Rows.{bit, Edges, Words}

pub record Chained (before after : List ℕ) : Type 0 where
  pub long : length after ≡ length before
  pub words : Words after
  pub chains : length before ≡ CELLS → (x y : ℕ) → So (bit after x y) ↔ Chain (Edges before) x y
  pub other : length before ≢ CELLS → after ≡ before
