-- A session in bytes: its head, then its trace's packed file to the end. C has what the rules come to.
--
--   file_in b      == the file
--   two_bytes_in b i == the number that two bytes make from place i on, the lower first
--   pair_in b i    == the pair at place i
--   stack_in b     == the pairs that the bytes name
--   made_in C b    == the session on the file's trace with the model and the pairs that the bytes name, made afresh, or that there is none
--   session_in C b == the session
--   like C b      == the bytes are those of a session that opening and supposing make
--   session_of C b == whether the bytes are those of a session, and which; beside a no that of the empty trace under model 1
use Rattle.std.specs.Prelude.{Bool, cond, ◌&&◌, List, ℕ, ◌+◌, ◌*◌, eqb, leb, length, get_or, take, drop}
use Rattle.laws.specs.Alike.{alike}
use Rattle.laws.specs.ListOf.{row}
use Rattle.packed.specs.FileRead.{read_file}
use Rattle.session.specs.Bounds.{PAIRS}
use Rattle.session.specs.Opening.{is_done}
use Rattle.session.specs.Closings.{Closings}
use Rattle.session.specs.Session.{blank}
use Rattle.session.specs.Entries.{afresh_of}
use Rattle.session.specs.declared.Pair.{Pair}
use Rattle.session.specs.declared.Stack.{Stack}
use Rattle.session.specs.declared.Session.{Session}
use Rattle.session.specs.declared.Reply.{Reply}
use Rattle.desk.specs.declared.sessions.Lent.{Lent}
use Rattle.desk.specs.File.{file_number}
use Rattle.desk.specs.SessionHead.{SESSION-HEAD, session_head}
use Rattle.packed.specs.Layout.{BYTE}

abbrev pub file_in : List ℕ → List ℕ
file_in b = drop SESSION-HEAD b

unfoldable pub two_bytes_in : List ℕ → ℕ → ℕ
two_bytes_in b i = get_or b i 0 + BYTE * get_or b (i + 1) 0

unfoldable pub pair_in : List ℕ → ℕ → Pair
pair_in b i = record { first = two_bytes_in b (2 + 4 * i); second = two_bytes_in b (4 + 4 * i) }

unfoldable pub stack_in : List ℕ → Stack
stack_in b = record { pairs = row (pair_in b) 0 PAIRS; count = get_or b 1 0 }

unfoldable pub made_in : Closings → List ℕ → Reply
made_in C b = afresh_of C (read_file (file_in b)).trace (get_or b 0 0) (stack_in b)

abbrev pub session_in : Closings → List ℕ → Session
session_in C b = (made_in C b).session

unfoldable pub like : Closings → List ℕ → Bool
like C b =
    leb SESSION-HEAD (length b)
    && eqb (file_number (file_in b)) 0
    && is_done (made_in C b).answer
    && alike (session_head (session_in C b)) (take SESSION-HEAD b)

unfoldable pub session_of : Closings → List ℕ → Lent
session_of C b = record { like = like C b; session = cond (like C b) (session_in C b) (blank C) }
