-- What a text gets that may have lost a core: where every line is good and the thread numbers skip one, it is turned back as number 22, with line 0.
--
--   LOST            == document 02's number of a lost core
--   whole_as a r    == a reading r with the answer a, held to this too
--   read_whole text == what `read_whole` answers
use Rattle.std.specs.Prelude.{cond, List, ℕ}
use Rattle.trace.specs.Trace.{empty}
use Rattle.trace.specs.Cores.{lost}
use Rattle.reader.specs.Read.{read_text}
use Rattle.reader.specs.declared.Answer.{Answer}
use Rattle.reader.specs.declared.Answer.TheVariants.{Good, Refused, Lost}
use Rattle.reader.specs.declared.Reading.{Reading}

abbrev pub LOST : ℕ
LOST = 22

abbrev pub whole_as : Answer → Reading → Reading
whole_as Good r = cond (lost r.trace) (record { answer = Lost; trace = empty }) r
whole_as (Refused reason n) r = r
whole_as Lost r = r

unfoldable pub read_whole : List ℕ → Reading
read_whole text = whole_as (read_text text).answer (read_text text)
