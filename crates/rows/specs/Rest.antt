-- What one row has and another has not.
--
--   rest_of from x out y == row x of `from` without what row y of `out` has, as a row of its own
use Rattle.std.specs.Prelude.{List, ℕ}
use Rattle.rows.specs.Bounds.{WORDS}
use Rattle.rows.specs.Empty.{empty_of}
use Rattle.rows.specs.AddRow.{add_row_of}
use Rattle.rows.specs.DropRow.{drop_row_of}

unfoldable pub rest_of : List ℕ → ℕ → List ℕ → ℕ → List ℕ
rest_of from x out y = drop_row_of out y (add_row_of from x (empty_of WORDS) 0) 0
