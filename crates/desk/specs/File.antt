-- What is wrong with a packed file, in numbers.
--
--   file_number_in a == document 02's number in the packed reader's answer; 0 for a good file
--   file_number b   == the number of a file
use Rattle.std.specs.Prelude.{List, ℕ}
use Rattle.packed.specs.FileRead.{file_reason_number, read_file}
use Rattle.packed.specs.declared.Answer.{Answer}
use Rattle.packed.specs.declared.Answer.TheVariants.{Good, Refused}

abbrev pub file_number_in : Answer → ℕ
file_number_in Good = 0
file_number_in (Refused reason line) = file_reason_number reason

abbrev pub file_number : List ℕ → ℕ
file_number b = file_number_in (read_file b).answer
