-- Which records a value is taken from, as the judge reads it off two records.
--
--   visible_by n a x b L before == the same of record x of n, told the records a and b of x and L and whether x stands before L
use Rattle.std.specs.Prelude.{Bool, ◌&&◌, ◌||◌, ℕ}
use Rattle.trace.specs.declared.Op.{Op}
use Rattle.pairs.specs.RecordTests.{earlier_by, writer_by}

unfoldable pub visible_by : ℕ → Op → ℕ → Op → ℕ → Bool → Bool
visible_by n a x b L before = writer_by n a x b L && (before || earlier_by a x b L)
