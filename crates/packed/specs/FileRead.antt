-- What any bytes whatever are read as.
--
--   file_reason_number reason == document 02's number of a reason; 4, 6, 7 and 8 are those of a text
--   entry_turn o fault == a record behind a trace: taken, or why not
--   turned_bytes t b == the record that b begins with, behind the trace t: 20 before 4, 6 and 8
--   begun_file vs    == the trace of no records with these first values
--   good t           == the reading of a file
--   back reason line == the answer to a refused one: the empty trace beside it
--   read_firsts c low vs b == c first values, whose addresses are low and above, put into vs
--   read_records t b k     == k records behind the trace t; the line of one is its number plus 1
--   then_records r b k     == the same where the first values were read
--   read_entries b c n == first values and records in turn
--   marked b         == b has the mark, and is long enough for mark and version
--   read_file b      == what `read` answers
use Rattle.std.specs.Prelude.{Option, Some, None, Result, Ok, Err, Bool, cond, ◌&&◌, ◌||◌, List, ℕ, zero, suc, ◌+◌, ◌*◌, eqb, ltb, leb, length, get_or, set, drop, replicate}
use Rattle.trace.specs.Bounds.{RECORDS, ADDRESSES}
use Rattle.trace.specs.Trace.{empty, pushed}
use Rattle.trace.specs.Fault.{fault_of}
use Rattle.trace.specs.declared.Op.{Op}
use Rattle.trace.specs.declared.Trace.{Trace}
use Rattle.trace.specs.declared.Fault.{Fault}
use Rattle.trace.specs.declared.Fault.TheVariants as fault
use Rattle.packed.specs.Layout.{VERSION, HEAD, FIRST, RECORD, two_in, size_of}
use Rattle.packed.specs.Entry.{entry_in}
use Rattle.packed.specs.declared.Reason.{Reason}
use Rattle.packed.specs.declared.Reason.TheVariants.{PastBound, FirstValue, TooMany, Twice, NoFile, OtherVersion, NoEntry, Lost}
use Rattle.packed.specs.declared.Answer.{Answer}
use Rattle.packed.specs.declared.Answer.TheVariants.{Good, Refused}
use Rattle.packed.specs.declared.Reading.{Reading}

abbrev pub file_reason_number : Reason → ℕ
file_reason_number PastBound = 4
file_reason_number FirstValue = 6
file_reason_number TooMany = 7
file_reason_number Twice = 8
file_reason_number NoFile = 18
file_reason_number OtherVersion = 19
file_reason_number NoEntry = 20
file_reason_number Lost = 22

abbrev pub entry_turn : Op → Option Fault → Result Op Reason
entry_turn o None = Ok o
entry_turn o (Some fault.PastBound) = Err PastBound
entry_turn o (Some fault.FirstValue) = Err FirstValue
entry_turn o (Some fault.TooMany) = Err TooMany
entry_turn o (Some fault.Twice) = Err Twice

abbrev pub turned_entry : Trace → Option Op → Result Op Reason
turned_entry t (Some o) = entry_turn o (fault_of t o)
turned_entry t None = Err NoEntry

unfoldable pub turned_bytes : Trace → List ℕ → Result Op Reason
turned_bytes t b = turned_entry t (entry_in b)

abbrev pub begun_file : List ℕ → Trace
begun_file vs = record { records = empty.records; len = 0; firsts = vs }

abbrev pub good : Trace → Reading
good t = record { answer = Good; trace = t }

abbrev pub back : Reason → ℕ → Reading
back reason line = record { answer = Refused reason line; trace = empty }

unfoldable pub read_firsts : ℕ → ℕ → List ℕ → List ℕ → Reading
read_firsts zero low vs b = good (begun_file vs)
read_firsts (suc c) low vs b =
    cond (eqb (two_in b 1) 0 || ltb (get_or b 0 0) low) (back NoEntry 0)
    (cond (leb ADDRESSES (get_or b 0 0)) (back PastBound 0)
    (read_firsts c (get_or b 0 0 + 1) (set vs (get_or b 0 0) (two_in b 1)) (drop FIRST b)))

unfoldable pub read_records : Trace → List ℕ → ℕ → Reading
read_records t b zero = good t
read_records t b (suc k) = elim (turned_bytes t b) [ Ok o ↦ read_records (pushed t o) (drop RECORD b) k | Err reason ↦ back reason (t.len + 1) ]

abbrev pub then_records : Answer → Reading → List ℕ → ℕ → Reading
then_records Good r b k = read_records r.trace b k
then_records (Refused reason line) r b k = r

unfoldable pub read_entries : List ℕ → ℕ → ℕ → Reading
read_entries b c n = let r = read_firsts c 0 (replicate ADDRESSES 0) (drop HEAD b) in then_records r.answer r (drop (HEAD + FIRST * c) b) n

abbrev pub marked : List ℕ → Bool
marked b = leb 5 (length b) && eqb (get_or b 0 0) 0x50 && eqb (get_or b 1 0) 0x59 && eqb (get_or b 2 0) 0x52

unfoldable pub read_file : List ℕ → Reading
read_file b =
    cond (marked b)
    (cond (eqb (two_in b 3) VERSION)
    (cond (eqb (length b) (size_of (get_or b 5 0) (two_in b 6)))
    (cond (leb (two_in b 6) RECORDS) (read_entries b (get_or b 5 0) (two_in b 6))
    (back TooMany (RECORDS + 1)))
    (back NoFile 0))
    (back OtherVersion 0))
    (back NoFile 0)
