-- Rows of the full length that were closed under chains.
--
--   HoldsChains before after == `after` is as long as `before` and holds exactly its chains
use Rattle.std.specs.Prelude.{◌≡◌, ◌↔◌, List, ℕ, length}
use Rattle.std.proofs.Math.Bool.{So}
use Rattle.laws.specs.Relation.{Chain}
use Rattle.rows.specs.Rows.{bit, Edges, Words}

pub record HoldsChains (before after : List ℕ) : Type 0 where
  pub long : length after ≡ length before
  pub words : Words before → Words after
  pub chains : (x y : ℕ) → So (bit after x y) ↔ Chain (Edges before) x y
