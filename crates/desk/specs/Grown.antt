-- A record more on a session in lent bytes, and the record that waits there. C has what the rules come to.
--
--   shorter b             == lent bytes without the last eight: the session that a record is added to
--   add_answer C b e       == what adding is answered: 12 where no session stands before the last eight bytes; 20 where what was given is no record; and
--                            otherwise what the session answers
--   add_bytes C b e        == the lent bytes after it: those of the longer session where the record is taken, and as they were where it is not
--   record_in a            == the record that waits, 0 where none does
--   waiting_answer C b out == what looking for a record that waits is answered: 12, then no room for the record's number, then waits, or 0 where none does
--   waiting_bytes C b out  == what the lent room holds then: the record's number at its front; as it was beside 12 and no room
use Rattle.std.specs.Prelude.{Option, Some, None, cond, ◌&&◌, List, [], ◌∷◌, ◌++◌, ℕ, ◌-◌, eqb, leb, length, take, drop}
use Rattle.text.specs.Room.{put_at}
use Rattle.trace.specs.declared.Op.{Op}
use Rattle.packed.specs.Layout.{RECORD}
use Rattle.packed.specs.FileRead.{file_reason_number}
use Rattle.packed.specs.declared.Reason.TheVariants.{NoEntry}
use Rattle.session.specs.Closings.{Closings}
use Rattle.session.specs.Entries.{waiting_of}
use Rattle.session.specs.Numbers.{reason_number, adds, awaits}
use Rattle.session.specs.declared.Reason.TheVariants.{Unlike}
use Rattle.session.specs.declared.Answer.{Answer}
use Rattle.session.specs.declared.Answer.TheVariants.{Done, Held, NotHeld, Contradicted, Waits, Refused}
use Rattle.desk.specs.AnswerNumbers.{NO-ROOM}
use Rattle.desk.specs.VerdictBytes.{wide}
use Rattle.desk.specs.Runs.{PLACE}
use Rattle.desk.specs.SessionBytes.{session_in, like}
use Rattle.desk.specs.SessionCalls.{answer_in, bytes_in}

abbrev pub shorter : List ℕ → List ℕ
shorter b = take (length b - RECORD) b

abbrev pub add_answer : Closings → List ℕ → Option Op → ℕ
add_answer C b (Some o) = answer_in C (shorter b) (adds o)
add_answer C b None = cond (like C (shorter b)) (file_reason_number NoEntry) (reason_number Unlike)

abbrev pub add_bytes : Closings → List ℕ → Option Op → List ℕ
add_bytes C b (Some o) = cond (eqb (answer_in C (shorter b) (adds o)) 0) (put_at (bytes_in C (shorter b) (adds o)) b 0) b
add_bytes C b None = b

abbrev pub record_in : Answer → ℕ
record_in Done = 0
record_in Held = 0
record_in NotHeld = 0
record_in Contradicted = 0
record_in (Waits x) = x
record_in (Refused r) = 0

unfoldable pub waiting_answer : Closings → List ℕ → List ℕ → ℕ
waiting_answer C b out = cond (like C b) (cond (leb PLACE (length out)) (answer_in C b awaits) NO-ROOM) (reason_number Unlike)

unfoldable pub waiting_bytes : Closings → List ℕ → List ℕ → List ℕ
waiting_bytes C b out =
    cond (like C b && leb PLACE (length out)) (wide (record_in (waiting_of C (session_in C b)).answer ∷ []) ++ drop PLACE out) out
