-- What a call on a session in bytes answers, and the bytes after it. C has what the rules come to.
--
--   code_of a          == an answer as a number: 0 done; held, not held, contradicted and waits by the table of AnswerNumbers; otherwise document 01's
--   answer_in C b a    == what a call on the bytes is answered: 12 where they are not those of a session
--   file_after C b a   == the file after it: a record that is added stands behind the others, and nothing else moves
--   bytes_in C b a     == the bytes after it
--   bytes_after C b cs == the bytes after any list of calls
use Rattle.std.specs.Prelude.{cond, List, [], ◌∷◌, ◌++◌, ℕ}
use Rattle.trace.specs.Trace.{pushed}
use Rattle.packed.specs.Layout.{file_of}
use Rattle.session.specs.Closings.{Closings}
use Rattle.session.specs.Entries.{joins}
use Rattle.session.specs.Numbers.{reason_number, Act, supposes, takes_back, asks, adds, awaits, reply_of}
use Rattle.session.specs.declared.Reason.TheVariants.{Unlike}
use Rattle.session.specs.declared.Answer.{Answer}
use Rattle.session.specs.declared.Answer.TheVariants.{Done, Held, NotHeld, Contradicted, Waits, Refused}
use Rattle.desk.specs.AnswerNumbers.{HELD, NOT-HELD, CONTRADICTED, WAITS}
use Rattle.desk.specs.SessionHead.{session_head}
use Rattle.desk.specs.SessionBytes.{file_in, session_in, like}

abbrev pub code_of : Answer → ℕ
code_of Done = 0
code_of Held = HELD
code_of NotHeld = NOT-HELD
code_of Contradicted = CONTRADICTED
code_of (Waits x) = WAITS
code_of (Refused r) = reason_number r

unfoldable pub answer_in : Closings → List ℕ → Act → ℕ
answer_in C b a = cond (like C b) (code_of (reply_of C (session_in C b) a).answer) (reason_number Unlike)

abbrev pub file_after : Closings → List ℕ → Act → List ℕ
file_after C b (supposes x y) = file_in b
file_after C b takes_back = file_in b
file_after C b (asks x y) = file_in b
file_after C b (adds o) = cond (joins (session_in C b).trace o) (file_of (pushed (session_in C b).trace o)) (file_in b)
file_after C b awaits = file_in b

unfoldable pub bytes_in : Closings → List ℕ → Act → List ℕ
bytes_in C b a = cond (like C b) (session_head (reply_of C (session_in C b) a).session ++ file_after C b a) b

unfoldable pub bytes_after : Closings → List ℕ → List Act → List ℕ
bytes_after C b [] = b
bytes_after C b (a ∷ cs) = bytes_after C (bytes_in C b a) cs
