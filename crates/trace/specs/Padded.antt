-- Lists in arrays that have a place for each record.
--
--   padded xs == a list in an array of RECORDS places, the unused ones 0
use Rattle.std.specs.Prelude.{List, ◌++◌, ℕ, ◌-◌, length, replicate}
use Rattle.trace.specs.Bounds.{RECORDS}

abbrev pub padded : List ℕ → List ℕ
padded xs = xs ++ replicate (RECORDS - length xs) 0
