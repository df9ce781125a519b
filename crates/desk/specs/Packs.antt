-- The packed file of a text's trace, and the text of a file's, in lent bytes behind their count.
--
--   COUNT            == how many bytes a count has
--   with_count bs     == bytes behind their count
--   FILE             == how many bytes a packed file has at the most
--   LaidBytes bs most after n == bs stands at the front, and n is how many bytes it has, at most `most`
--   length_in w       == the length that the packed writer tells; 0 where it tells none
--   answer_for n bs b == the answer where n is the number of what is wrong, and else bs is to be laid into b: n; else 21 where there is no room, else 0
--   bytes_for n bs b  == what b holds then: what is counted in front and all behind it as it was; beside a refusal all as it was
--   whole_number b    == document 02's number of a file, held to lost cores; 0 for a good one
--   whole_trace b     == the trace of a file; the empty one where it is turned back
--   file_line_in a     == the line in the packed reader's answer; 0 for a good file
--   whole_line b      == the line of a file
--   text_packed words == the packed file of a text's trace
--   file_unpacked b   == the text of a file's trace
use Rattle.std.specs.Prelude.{Result, Ok, Err, ◌≡◌, cond, List, [], ◌∷◌, ◌++◌, ℕ, ◌≤◌, eqb, leb, length, take}
use Rattle.trace.specs.Bounds.{RECORDS, ADDRESSES}
use Rattle.trace.specs.declared.Trace.{Trace}
use Rattle.text.specs.Room.{put_at}
use Rattle.reader.specs.TextOf.{render_trace}
use Rattle.reader.specs.Whole as text
use Rattle.packed.specs.Layout.{size_of, file_of}
use Rattle.packed.specs.WholeFile as file
use Rattle.packed.specs.declared.Answer.{Answer}
use Rattle.packed.specs.declared.Answer.TheVariants.{Good, Refused}
use Rattle.packed.specs.declared.Unwritten.{Unwritten}
use Rattle.desk.specs.AnswerNumbers.{NO-ROOM}
use Rattle.desk.specs.File.{file_number_in}
use Rattle.desk.specs.VerdictBytes.{wide}

abbrev pub COUNT : ℕ
COUNT = 2

abbrev pub with_count : List ℕ → List ℕ
with_count bs = wide (length bs ∷ []) ++ bs

abbrev pub FILE : ℕ
FILE = size_of ADDRESSES RECORDS

pub record LaidBytes (bs : List ℕ) (most : ℕ) (after : List ℕ) (n : ℕ) : Type 0 where
  pub long : n ≡ length bs
  pub short : n ≤ most
  pub within : n ≤ length after
  pub front : take n after ≡ bs

abbrev pub length_in : Result ℕ Unwritten → ℕ
length_in (Ok n) = n
length_in (Err why) = 0

unfoldable pub answer_for : ℕ → List ℕ → List ℕ → ℕ
answer_for n bs b = cond (eqb n 0) (cond (leb (length (with_count bs)) (length b)) 0 NO-ROOM) n

unfoldable pub bytes_for : ℕ → List ℕ → List ℕ → List ℕ
bytes_for n bs b = cond (eqb n 0) (put_at (with_count bs) b 0) b

abbrev pub whole_number : List ℕ → ℕ
whole_number b = file_number_in (file.read_whole_file b).answer

abbrev pub whole_trace : List ℕ → Trace
whole_trace b = (file.read_whole_file b).trace

abbrev pub file_line_in : Answer → ℕ
file_line_in Good = 0
file_line_in (Refused reason line) = line

abbrev pub whole_line : List ℕ → ℕ
whole_line b = file_line_in (file.read_whole_file b).answer

abbrev pub text_packed : List ℕ → List ℕ
text_packed words = file_of (text.read_whole words).trace

abbrev pub file_unpacked : List ℕ → List ℕ
file_unpacked b = render_trace (whole_trace b)
