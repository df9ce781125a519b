-- What a file gets that may have lost a core, and a trace that is to be written: where all else is good and the thread numbers skip one, it is
-- turned back as number 22, a file with line 0.
--
--   whole_file_as a r == a reading r with the answer a, held to this too
--   read_whole_file b == what `read_whole` answers
--   wrote_whole t b == 10, then 22, then 21; else the length
--   left_whole t b  == the file, and all behind it as it was; beside a refusal all as it was
use Rattle.std.specs.Prelude.{Result, Err, cond, List, ℕ}
use Rattle.trace.specs.WellFormed.{well_formed}
use Rattle.trace.specs.Cores.{lost}
use Rattle.trace.specs.declared.Trace.{Trace}
use Rattle.packed.specs.FileRead.{back, read_file}
use Rattle.packed.specs.Write.{wrote_of, left_of}
use Rattle.packed.specs.declared.Reason.TheVariants as reason
use Rattle.packed.specs.declared.Answer.{Answer}
use Rattle.packed.specs.declared.Answer.TheVariants.{Good, Refused}
use Rattle.packed.specs.declared.Reading.{Reading}
use Rattle.packed.specs.declared.Unwritten.{Unwritten}
use Rattle.packed.specs.declared.Unwritten.TheVariants.{NotWellFormed, Lost}

abbrev pub whole_file_as : Answer → Reading → Reading
whole_file_as Good r = cond (lost r.trace) (back reason.Lost 0) r
whole_file_as (Refused reason line) r = r

unfoldable pub read_whole_file : List ℕ → Reading
read_whole_file b = whole_file_as (read_file b).answer (read_file b)

unfoldable pub wrote_whole : Trace → List ℕ → Result ℕ Unwritten
wrote_whole t b = cond (well_formed t) (cond (lost t) (Err Lost) (wrote_of t b)) (Err NotWellFormed)

unfoldable pub left_whole : Trace → List ℕ → List ℕ
left_whole t b = cond (well_formed t) (cond (lost t) b (left_of t b)) b
