-- The line that a text is turned back for, and where it stands.
--
--   line_in a         == the line in an answer, counted from 1; 0 where no line is to blame
--   bad_line_number text == the line that a text is turned back for
--   passed text n     == the place behind the first n lines; the end of the text where it has fewer
--   line_start text n == where line n starts; 0 for line 0
--   line_end text n   == where line n ends, before its line feed; 0 for line 0
--   start_of text     == where the bad line starts; 0 where no line is to blame
--   end_of text       == where it ends, before its line feed; 0 where no line is to blame
--   place_of text     == both
use Rattle.std.specs.Prelude.{cond, List, ℕ, zero, suc, ◌-◌, eqb}
use Rattle.text.specs.Lines.{end_at, next_at}
use Rattle.reader.specs.Read.{read_text}
use Rattle.reader.specs.declared.Answer.{Answer}
use Rattle.reader.specs.declared.Answer.TheVariants.{Good, Refused, Lost}
use Rattle.reader.specs.declared.Place.{Place}

abbrev pub line_in : Answer → ℕ
line_in Good = 0
line_in (Refused reason line) = line
line_in Lost = 0

abbrev pub bad_line_number : List ℕ → ℕ
bad_line_number text = line_in (read_text text).answer

unfoldable pub passed : List ℕ → ℕ → ℕ
passed text zero = 0
passed text (suc n) = next_at text (passed text n)

abbrev pub line_start : List ℕ → ℕ → ℕ
line_start text n = passed text (n - 1)

unfoldable pub line_end : List ℕ → ℕ → ℕ
line_end text n = cond (eqb n 0) 0 (end_at text (line_start text n))

unfoldable pub start_of : List ℕ → ℕ
start_of text = line_start text (bad_line_number text)

unfoldable pub end_of : List ℕ → ℕ
end_of text = line_end text (bad_line_number text)

unfoldable pub place_of : List ℕ → Place
place_of text = record { start = start_of text; end = end_of text }
