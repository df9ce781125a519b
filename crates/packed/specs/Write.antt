-- What the writer answers, and what the lent bytes hold then.
--
--   long_of t    == how many bytes the file of a trace has
--   file_room t b == the lent bytes have room for it
--   wrote_of t b == 10 before 21; else the length
--   left_of t b  == the file, and all behind it as it was; beside a refusal all as it was
use Rattle.std.specs.Prelude.{Result, Ok, Err, Bool, cond, List, ◌++◌, ℕ, leb, length, drop}
use Rattle.trace.specs.WellFormed.{well_formed}
use Rattle.trace.specs.declared.Trace.{Trace}
use Rattle.packed.specs.Layout.{file_of}
use Rattle.packed.specs.declared.Unwritten.{Unwritten}
use Rattle.packed.specs.declared.Unwritten.TheVariants.{NotWellFormed, NoRoom}

abbrev pub long_of : Trace → ℕ
long_of t = length (file_of t)

abbrev pub file_room : Trace → List ℕ → Bool
file_room t b = leb (long_of t) (length b)

unfoldable pub wrote_of : Trace → List ℕ → Result ℕ Unwritten
wrote_of t b = cond (well_formed t) (cond (file_room t b) (Ok (long_of t)) (Err NoRoom)) (Err NotWellFormed)

unfoldable pub left_of : Trace → List ℕ → List ℕ
left_of t b = cond (well_formed t) (cond (file_room t b) (file_of t ++ drop (long_of t) b) b) b
