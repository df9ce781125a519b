-- Rows that are settled by taking pairs in, pass by pass.
--
--   SettlingRows f K P e p == e is growing with its twin p, and round 0 is in: how the loop stands before every pass
--   Grew f K P bad e       == the loop's answer
use Rattle.std.specs.Prelude.{◌≡◌, Bool, List, ℕ, length}
use Rattle.laws.specs.Relation.{Table, ◌⊆◌}
use Rattle.rules.specs.Frame.{Frame}
use Rattle.rows.specs.Bounds.{CELLS}
use Rattle.rows.specs.Rows.{bit, Edges}
use Rattle.rules.specs.Rules.{Edge}
use Rattle.rules.specs.Closing.{Closing}
use Rattle.rules.specs.inner.Growing.{Growing}
use Rattle.edges.specs.LastRound.{Full}
use Rattle.edges.specs.inner.ClosedTables.{Twin}

pub record SettlingRows (f : Frame) (K P : Table) (e p : List ℕ) : Type 0 where
  pub full : Full e
  pub turned-long : length p ≡ CELLS
  pub twin : Twin e p
  pub growing : Growing f K P (Edges e)
  pub begun : Edge f K P 0 ⊆ Edges e

pub record Grew (f : Frame) (K P : Table) (bad : Bool) (e : List ℕ) : Type 0 where
  pub full : Full e
  pub closing : Closing f K P bad (bit e)
