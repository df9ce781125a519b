-- What any text whatever gets.
--
--   refusal reason n          == the answer to a refused text: the empty trace beside it
--   read_lines n t ls         == the lines ls, the first of which is line n, behind the trace t: no more init lines are taken
--   none                      == the flags of no addresses
--   read_inits n given t ls   == the same at the top: init lines first, the flags and the trace are what those above gave
--   read_text text            == what `read` answers
--   bad_lines t ls, bad_inits given t ls == the bytes of the first bad one of the lines; none where all are good
--   bad_line_of text          == the bytes of the line that a text is turned back for; none where no line is to blame
use Rattle.std.specs.Prelude.{Bool, true, false, cond, List, [], ◌∷◌, ℕ, ◌+◌, ltb, length, set, replicate, Some, None, Ok, Err}
use Rattle.trace.specs.Bounds.{ADDRESSES}
use Rattle.trace.specs.Trace.{empty, started, pushed}
use Rattle.trace.specs.declared.Trace.{Trace}
use Rattle.reader.specs.Bounds.{TEXT}
use Rattle.text.specs.Lines.{Line, lines}
use Rattle.reader.specs.Answer.{turned, init_given}
use Rattle.reader.specs.declared.Reason.{Reason}
use Rattle.reader.specs.declared.Reason.TheVariants.{LongText}
use Rattle.reader.specs.declared.Answer.TheVariants.{Good, Refused}
use Rattle.reader.specs.declared.Reading.{Reading}

abbrev pub refusal : Reason → ℕ → Reading
refusal reason n = record { answer = Refused reason n; trace = empty }

unfoldable pub read_lines : ℕ → Trace → List Line → Reading
read_lines n t [] = record { answer = Good; trace = t }
read_lines n t (l ∷ ls) = elim (turned t l) [ Ok o ↦ read_lines (n + 1) (pushed t o) ls | Err reason ↦ refusal reason n ]

abbrev pub none : List Bool
none = replicate ADDRESSES false

unfoldable pub read_inits : ℕ → List Bool → Trace → List Line → Reading
read_inits n given t [] = record { answer = Good; trace = t }
read_inits n given t (l ∷ ls) = elim (init_given given l) [ Some i ↦ read_inits (n + 1) (set given i.addr true) (started t i.addr i.value) ls | None ↦ read_lines n t (l ∷ ls) ]

unfoldable pub read_text : List ℕ → Reading
read_text text = cond (ltb TEXT (length text)) (refusal LongText 0) (read_inits 1 none empty (lines text))

unfoldable pub bad_lines : Trace → List Line → List ℕ
bad_lines t [] = []
bad_lines t (l ∷ ls) = elim (turned t l) [ Ok o ↦ bad_lines (pushed t o) ls | Err reason ↦ l.bytes ]

unfoldable pub bad_inits : List Bool → Trace → List Line → List ℕ
bad_inits given t [] = []
bad_inits given t (l ∷ ls) = elim (init_given given l) [ Some i ↦ bad_inits (set given i.addr true) (started t i.addr i.value) ls | None ↦ bad_lines t (l ∷ ls) ]

unfoldable pub bad_line_of : List ℕ → List ℕ
bad_line_of text = cond (ltb TEXT (length text)) [] (bad_inits none empty (lines text))
