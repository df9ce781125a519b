-- What opening a session into lent bytes answers, and the bytes after it. What it is opened on, a text or a packed file, was read: n is the number of
-- what is wrong with it, 0 where it is good, and t its trace. C has what the rules come to.
--
--   room_to_open t b      == the lent bytes have room for a head and the packed file of the trace
--   open_number n t m    == what is wrong with what was read, or with opening a session on its trace; 0 where it is opened
--   open_session C n t m == the session that is opened; that of the empty trace under model 1 where none is
--   open_answer n t m b  == what comes back for the bytes that are lent: no room is told where nothing else is wrong
--   open_bytes C n t m b == what they hold then: the session's bytes where there is room for them, also beside a refusal, and all else as it was
use Rattle.std.specs.Prelude.{Bool, cond, List, ℕ, ◌+◌, eqb, leb, length}
use Rattle.text.specs.Room.{put_at}
use Rattle.trace.specs.declared.Trace.{Trace}
use Rattle.packed.specs.Layout.{file_of}
use Rattle.session.specs.Opening.{opening_of}
use Rattle.session.specs.Closings.{Closings}
use Rattle.session.specs.Session.{blank}
use Rattle.session.specs.Entries.{open_of}
use Rattle.session.specs.declared.Session.{Session}
use Rattle.desk.specs.AnswerNumbers.{NO-ROOM}
use Rattle.desk.specs.SessionHead.{SESSION-HEAD, session_bytes}
use Rattle.desk.specs.SessionCalls.{code_of}

abbrev pub room_to_open : Trace → List ℕ → Bool
room_to_open t b = leb (SESSION-HEAD + length (file_of t)) (length b)

unfoldable pub open_number : ℕ → Trace → ℕ → ℕ
open_number n t m = cond (eqb n 0) (code_of (opening_of t m)) n

unfoldable pub open_session : Closings → ℕ → Trace → ℕ → Session
open_session C n t m = cond (eqb n 0) (open_of C t m).session (blank C)

unfoldable pub open_answer : ℕ → Trace → ℕ → List ℕ → ℕ
open_answer n t m b = cond (eqb (open_number n t m) 0) (cond (room_to_open t b) 0 NO-ROOM) (open_number n t m)

unfoldable pub open_bytes : Closings → ℕ → Trace → ℕ → List ℕ → List ℕ
open_bytes C n t m b = put_at (session_bytes (open_session C n t m)) b 0
