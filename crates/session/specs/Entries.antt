-- What each call answers, and the session after it. C has what the rules come to.
--
--   pair_turn C s x y    == whether a session takes x, y as a pair to speak of (12, 13, 14)
--   suppose_turn C s x y == whether it takes it as one pair more (12 to 15)
--   take_back_turn C s    == whether it has a pair to take back (12, 16)
--   fault_answer fault   == a fault of one record more, as an answer (4, 6, 7, 8); done where there is none
--   joins t o           == nothing is wrong with record o behind the trace t
--   add_turn C s o       == whether a session takes it (12, then 4, 6, 7, 8)
--   waits_of found       == which record waits, as an answer; done where none does
--   told_of s x y        == what the session's table says of a pair
--   next a s' s         == the session after a call: s' where nothing was turned back, otherwise the session as given
--   open_of, suppose_of, take_back_of, ask_of, add_of, waiting_of == the calls
--   afresh_of C t m k    == the session on a trace and a model with the pairs that a stack keeps; 12 where none such can be opened
use Rattle.std.specs.Prelude.{Bool, cond, ◌&&◌, [], ◌∷◌, ◌++◌, ℕ, ◌-◌, eqb, leb, length, take, Some, None, Option}
use Rattle.trace.specs.Trace.{pushed}
use Rattle.trace.specs.Fault.{fault_of}
use Rattle.trace.specs.Meaning.{frame_of}
use Rattle.trace.specs.declared.Op.{Op}
use Rattle.trace.specs.declared.Fault.{Fault}
use Rattle.trace.specs.declared.Fault.TheVariants as fault
use Rattle.trace.specs.declared.Trace.{Trace}
use Rattle.rows.specs.Rows.{bit}
use Rattle.pairs.specs.MissingOf.{missing_of}
use Rattle.pairs.specs.Found.{Found}
use Rattle.session.specs.Bounds.{PAIRS}
use Rattle.session.specs.Stack.{standing, stands}
use Rattle.session.specs.Opening.{opening_of, is_done, openable}
use Rattle.session.specs.Closings.{Closings}
use Rattle.session.specs.Session.{afresh, intact, blank}
use Rattle.session.specs.declared.Reason.TheVariants.{Unlike, NoOperation, OneRecord, TooManyPairs, NoPair, PastBound, FirstValue, TooMany, Twice}
use Rattle.session.specs.declared.Answer.{Answer}
use Rattle.session.specs.declared.Answer.TheVariants.{Done, Held, NotHeld, Contradicted, Waits, Refused}
use Rattle.session.specs.declared.Stack.{Stack}
use Rattle.session.specs.declared.Session.{Session}
use Rattle.session.specs.declared.Reply.{Reply}

unfoldable pub pair_turn : Closings → Session → ℕ → ℕ → Answer
pair_turn C s x y =
    cond (intact C s)
    (cond ((frame_of s.trace).operation x && (frame_of s.trace).operation y) (cond (eqb x y) (Refused OneRecord) Done) (Refused NoOperation))
    (Refused Unlike)

unfoldable pub suppose_turn : Closings → Session → ℕ → ℕ → Answer
suppose_turn C s x y =
    cond (is_done (pair_turn C s x y)) (cond (leb PAIRS s.stack.count) (Refused TooManyPairs) Done) (pair_turn C s x y)

unfoldable pub take_back_turn : Closings → Session → Answer
take_back_turn C s = cond (intact C s) (cond (eqb s.stack.count 0) (Refused NoPair) Done) (Refused Unlike)

abbrev pub fault_answer : Option Fault → Answer
fault_answer None = Done
fault_answer (Some fault.PastBound) = Refused PastBound
fault_answer (Some fault.FirstValue) = Refused FirstValue
fault_answer (Some fault.TooMany) = Refused TooMany
fault_answer (Some fault.Twice) = Refused Twice

unfoldable pub joins : Trace → Op → Bool
joins t o = is_done (fault_answer (fault_of t o))

unfoldable pub add_turn : Closings → Session → Op → Answer
add_turn C s o = cond (intact C s) (fault_answer (fault_of s.trace o)) (Refused Unlike)

abbrev pub waits_of : Found → Answer
waits_of (Some x) = Waits x
waits_of None = Done

unfoldable pub told_of : Session → ℕ → ℕ → Answer
told_of s x y = cond s.contradicted Contradicted (cond (bit s.held x y) Held NotHeld)

abbrev pub next : Answer → Session → Session → Session
next a s' s = cond (is_done a) s' s

unfoldable pub open_of : Closings → Trace → ℕ → Reply
open_of C t m = record { answer = opening_of t m; session = next (opening_of t m) (afresh C t m []) (blank C) }

unfoldable pub afresh_of : Closings → Trace → ℕ → Stack → Reply
afresh_of C t m k =
    cond (openable t m && stands t k)
    (record { answer = Done; session = afresh C t m (standing k) })
    (record { answer = Refused Unlike; session = blank C })

unfoldable pub suppose_of : Closings → Session → ℕ → ℕ → Reply
suppose_of C s x y = record {
  answer = suppose_turn C s x y;
  session = next (suppose_turn C s x y) (afresh C s.trace s.model (standing s.stack ++ record { first = x; second = y } ∷ [])) s;
}

unfoldable pub take_back_of : Closings → Session → Reply
take_back_of C s = record {
  answer = take_back_turn C s;
  session = next (take_back_turn C s) (afresh C s.trace s.model (take (length (standing s.stack) - 1) (standing s.stack))) s;
}

unfoldable pub ask_of : Closings → Session → ℕ → ℕ → Reply
ask_of C s x y = record { answer = cond (is_done (pair_turn C s x y)) (told_of s x y) (pair_turn C s x y); session = s }

unfoldable pub add_of : Closings → Session → Op → Reply
add_of C s o = record { answer = add_turn C s o; session = next (add_turn C s o) (afresh C (pushed s.trace o) s.model (standing s.stack)) s }

unfoldable pub waiting_of : Closings → Session → Reply
waiting_of C s = record { answer = cond (intact C s) (waits_of (missing_of s.trace)) (Refused Unlike); session = s }
