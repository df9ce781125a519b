-- The supposed pairs of a trace, lent as rows.
--
--   supposed_of t rows == the pairs of the rows that join operations of the trace; no others count
use Rattle.std.specs.Prelude.{◌&&◌, List, ℕ}
use Rattle.laws.specs.Relation.{Table}
use Rattle.trace.specs.Meaning.{frame_of}
use Rattle.trace.specs.declared.Trace.{Trace}
use Rattle.rows.specs.Rows.{bit}

unfoldable pub supposed_of : Trace → List ℕ → Table
supposed_of t rows x y = (frame_of t).operation x && (frame_of t).operation y && bit rows x y
