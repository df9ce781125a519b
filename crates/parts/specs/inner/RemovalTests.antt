-- What one removal takes, as tests.
--
--   goes? f i x == the same as a test
--   cut_away r A i == A without i and what goes with it, where r is such a test
use Rattle.std.specs.Prelude.{not, ◌&&◌, ◌||◌, ℕ, eqb}
use Rattle.laws.specs.Relation.{Table}
use Rattle.laws.specs.Warshall.{chains}
use Rattle.rules.specs.Frame.{Frame}
use Rattle.rules.specs.RuleTests.{source?}
use Rattle.parts.specs.Removal.{Set}

unfoldable pub goes? : Frame → Table
goes? f i x = eqb i x || chains f.records (source? f) i x

abbrev pub cut_away : Table → Set → ℕ → Set
cut_away r A i x = A x && not (r i x)
