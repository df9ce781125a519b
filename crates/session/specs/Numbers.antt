-- The numbers under which a call is turned back, and when each applies. The number given is the lowest that applies; 4, 6, 7 and 8 of a record to be
-- added are ranked after 12, so they apply to sessions that are one.
--
--   refusal_number a == document 01's number of an answer, or nothing where nothing is turned back
--   call_number a == the same with 0 for nothing
--   waits? a     == the record that an answer says to wait, if any
--   Act          == a call on a session: suppose a pair, take the latest back, ask about a pair, add a record, look for one that waits
--   Call         == an opening, a session asked for from its parts, or an act on any session value whatever
--   Names a x y  == the act speaks of the pair x, y
--   Applies C c n == number n applies to the call
--   reply_of C s a == what an act on a session gets
--   answer_of C c  == what a call is answered
use Rattle.std.specs.Prelude.{◌≡◌, ℕ, ◌≤◌}
use Rattle.std.proofs.Math.Bool.{So}
use Rattle.std.specs.Prelude as prelude
use Rattle.std.proofs.Math.Option.{Option, none, some}
use Rattle.trace.specs.WellFormed.{well_formed}
use Rattle.trace.specs.Fault as fault
use Rattle.trace.specs.Meaning.{frame_of}
use Rattle.trace.specs.declared.Op.{Op}
use Rattle.trace.specs.declared.Fault.{Fault}
use Rattle.trace.specs.declared.Trace.{Trace}
use Rattle.pairs.specs.Kept.{modelled}
use Rattle.session.specs.Bounds.{PAIRS}
use Rattle.session.specs.Stack.{Stands}
use Rattle.session.specs.Opening.{openable}
use Rattle.session.specs.Closings.{Closings}
use Rattle.session.specs.Session.{Intact}
use Rattle.session.specs.Entries.{open_of, afresh_of, suppose_of, take_back_of, ask_of, add_of, waiting_of}
use Rattle.session.specs.declared.Reason.{Reason}
use Rattle.session.specs.declared.Reason.TheVariants.{NoModel, NotWellFormed, Unlike, NoOperation, OneRecord, TooManyPairs, NoPair, PastBound, FirstValue, TooMany, Twice}
use Rattle.session.specs.declared.Answer.{Answer}
use Rattle.session.specs.declared.Answer.TheVariants.{Done, Held, NotHeld, Contradicted, Waits, Refused}
use Rattle.session.specs.declared.Stack.{Stack}
use Rattle.session.specs.declared.Session.{Session}
use Rattle.session.specs.declared.Reply.{Reply}

abbrev pub reason_number : Reason → ℕ
reason_number NoModel = 9
reason_number NotWellFormed = 10
reason_number Unlike = 12
reason_number NoOperation = 13
reason_number OneRecord = 14
reason_number TooManyPairs = 15
reason_number NoPair = 16
reason_number PastBound = 4
reason_number FirstValue = 6
reason_number TooMany = 7
reason_number Twice = 8

abbrev pub refusal_number : Answer → Option ℕ
refusal_number Done = none
refusal_number Held = none
refusal_number NotHeld = none
refusal_number Contradicted = none
refusal_number (Waits x) = none
refusal_number (Refused r) = some (reason_number r)

abbrev pub call_number : Answer → ℕ
call_number a = elim (refusal_number a) [ some n ↦ n | none ↦ 0 ]

abbrev pub waits? : Answer → Option ℕ
waits? Done = none
waits? Held = none
waits? NotHeld = none
waits? Contradicted = none
waits? (Waits x) = some x
waits? (Refused r) = none

pub data Act : Type 0 where
  supposes : ℕ → ℕ → Act
  takes_back : Act
  asks : ℕ → ℕ → Act
  adds : Op → Act
  awaits : Act

pub data Call : Type 0 where
  opens : Trace → ℕ → Call
  makes : Trace → ℕ → Stack → Call
  does : Session → Act → Call

pub data Names : Act → ℕ → ℕ → Type 0 where
  supposed : {x y : ℕ} → Names (supposes x y) x y
  asked : {x y : ℕ} → Names (asks x y) x y

pub data Applies (C : Closings) : Call → ℕ → Type 0 where
  nine : {t : Trace} {m : ℕ} → (So (modelled m) → ⊥) → Applies C (opens t m) 9
  ten : {t : Trace} {m : ℕ} → (So (well_formed t) → ⊥) → Applies C (opens t m) 10
  twelve : {s : Session} {a : Act} → (Intact C s → ⊥) → Applies C (does s a) 12
  unmade : {t : Trace} {m : ℕ} {k : Stack} → (So (openable t m) × Stands t k → ⊥) → Applies C (makes t m k) 12
  thirteen : {s : Session} {a : Act} {x y : ℕ} → Names a x y → (So ((frame_of s.trace).operation x) × So ((frame_of s.trace).operation y) → ⊥) → Applies C (does s a) 13
  fourteen : {s : Session} {a : Act} {x : ℕ} → Names a x x → Applies C (does s a) 14
  fifteen : {s : Session} {x y : ℕ} → PAIRS ≤ s.stack.count → Applies C (does s (supposes x y)) 15
  sixteen : {s : Session} → s.stack.count ≡ 0 → Applies C (does s takes_back) 16
  faulty : {s : Session} {o : Op} (f : prelude.Option Fault) → Intact C s → fault.Wrong f s.trace o → Applies C (does s (adds o)) (fault.fault_number f)

abbrev pub reply_of : Closings → Session → Act → Reply
reply_of C s (supposes x y) = suppose_of C s x y
reply_of C s takes_back = take_back_of C s
reply_of C s (asks x y) = ask_of C s x y
reply_of C s (adds o) = add_of C s o
reply_of C s awaits = waiting_of C s

abbrev pub answer_of : Closings → Call → Answer
answer_of C (opens t m) = (open_of C t m).answer
answer_of C (makes t m k) = (afresh_of C t m k).answer
answer_of C (does s a) = (reply_of C s a).answer
