-- What is asked of an order, or of a relation that orders are made from, so that no value need be looked at.
--
--   Clear f xs   == in the list xs a writer that is before a load is not after the load's source
--   SettlesLoads f H == H leaves no writer undecided for a load with a source: it is before the source or after the load
--   Total f H    == H orders every two operations
--   Strict f H   == the table H is a strict order, and leads from operations
use mathlib.Core.Bool.{So}
use mathlib.Core.Logic.{◌≢◌, ◌⊎◌}
use mathlib.Core.List.{List}
use Prim.Native.Nat.{ℕ}
use Rattle.laws.specs.Places.{Before}
use Rattle.laws.specs.Relation.{Rel, Table, Transitive}
use Rattle.laws.specs.inner.Sorted.{On}
use Rattle.rules.specs.Frame.{Frame, Writer, Source}

abbrev pub Clear : Frame → List ℕ → Type 0
Clear f xs = (S S' L : ℕ) → Source f S L → Writer f S' L → S' ≢ S → Before xs S' L → Before xs S' S

abbrev pub SettlesLoads : Frame → Rel → Type 0
SettlesLoads f H = (S S' L : ℕ) → Source f S L → Writer f S' L → S' ≢ S → H S' S ⊎ H L S'

abbrev pub Total : Frame → Rel → Type 0
Total f H = (x y : ℕ) → So (f.operation x) → So (f.operation y) → x ≢ y → H x y ⊎ H y x

pub record Strict (f : Frame) (H : Table) : Type 0 where
  pub join : Transitive (On H)
  pub never : (x : ℕ) → So (H x x) → ⊥
  pub starts : (x y : ℕ) → So (H x y) → So (f.operation x)
