-- What is wrong with a text, in numbers.
--
--   number_in a    == the documents' number in a reader's answer; 0 for a good text
--   text_number text == the number of a text
use Rattle.std.specs.Prelude.{List, ℕ}
use Rattle.reader.specs.Answer as answer
use Rattle.reader.specs.Whole.{LOST, read_whole}
use Rattle.reader.specs.declared.Answer.{Answer}
use Rattle.reader.specs.declared.Answer.TheVariants.{Good, Refused, Lost}

abbrev pub number_in : Answer → ℕ
number_in Good = 0
number_in (Refused reason line) = answer.number_of reason
number_in Lost = LOST

abbrev pub text_number : List ℕ → ℕ
text_number text = number_in (read_whole text).answer
