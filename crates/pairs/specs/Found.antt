-- What a function that looks for one record answers.
--
--   Found == that record, or none
use Rattle.std.specs.Prelude.{Option, ℕ}

abbrev pub Found : Type 0
Found = Option ℕ
