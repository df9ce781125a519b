-- What each line of a talk is answered, and the talk after it. C has what the rules come to.
--
--   fresh_of C           == the talk before its first line: the session of the empty trace under model 1, and no init lines
--   answer_told a        == a session's answer, as a line is answered
--   waits_told a         == the same where who waits was asked
--   record_told x a      == the same where a record was to be added under the number x
--   said k a s          == the answer a, and the talk k with the session s
--   replied k r         == what a session's reply says, and the talk after it
--   refused_of k n       == number n, and the talk as it was
--   supposition_of, question_of, back_of, look_of == the calls on the session
--   model_of C k n       == the session made afresh under model n, with its records and the pairs that stand; 9 where there is no such model
--   addition_of C k o    == a record is added
--   turn_said C k turn   == a line behind the records, as the reader takes it or turns it back (2 to 8, 17)
--   first_value k bytes  == the address and value of an init line that gives a first value: no record stands, and no line before gave that address one
--   beginning_of C k a v == the session opened afresh with that first value
--   line_said C k bytes  == a line that makes no call
--   asked_of C k bytes c == a line that makes the call c, if any
--   talk_answer C k l    == any line whatever: 2 where it is too long, 3 where it has no line feed
use Rattle.std.specs.Prelude.{true, cond, List, ℕ, eqb, ltb, length, set, Option, Some, None, Result, Ok, Err}
use Rattle.trace.specs.Trace.{started}
use Rattle.trace.specs.declared.Op.{Op}
use Rattle.pairs.specs.Kept.{modelled}
use Rattle.text.specs.Lines.{Line}
use Rattle.reader.specs.Bounds.{LINE}
use Rattle.reader.specs.Answer.{number_of, turned, init_given}
use Rattle.reader.specs.Read.{none}
use Rattle.reader.specs.declared.Init.{Init}
use Rattle.reader.specs.declared.Reason.{Reason}
use Rattle.reader.specs.declared.Reason.TheVariants as reason
use Rattle.session.specs.Opening.{is_done}
use Rattle.session.specs.Closings.{Closings}
use Rattle.session.specs.Session.{blank}
use Rattle.session.specs.Entries.{open_of, afresh_of, suppose_of, take_back_of, ask_of, add_of, waiting_of}
use Rattle.session.specs.Numbers.{reason_number}
use Rattle.session.specs.declared.Answer.{Answer}
use Rattle.session.specs.declared.Answer.TheVariants as answer
use Rattle.session.specs.declared.Reason.TheVariants as session
use Rattle.session.specs.declared.Session.{Session}
use Rattle.session.specs.declared.Reply.{Reply}
use Rattle.talk.specs.Command.{command_of}
use Rattle.talk.specs.declared.asking.Command.{Command}
use Rattle.talk.specs.declared.asking.Command.TheVariants.{Suppose, Ask, TakeBack, Waiting, Model, Nothing}
use Rattle.talk.specs.declared.telling.Talk.{Talk}
use Rattle.talk.specs.declared.telling.Told.{Told}
use Rattle.talk.specs.declared.telling.Told.TheVariants.{Done, Record, Held, NotHeld, Contradicted, Waits, NoneWaits, Refused}
use Rattle.talk.specs.declared.telling.Said.{Said}

abbrev pub ungiven : Session → Talk
ungiven s = record { session = s; given = none }

unfoldable pub fresh_of : Closings → Talk
fresh_of C = ungiven (blank C)

abbrev pub answer_told : Answer → Told
answer_told answer.Done = Done
answer_told answer.Held = Held
answer_told answer.NotHeld = NotHeld
answer_told answer.Contradicted = Contradicted
answer_told (answer.Waits x) = Waits x
answer_told (answer.Refused r) = Refused (reason_number r)

abbrev pub waits_told : Answer → Told
waits_told a = cond (is_done a) NoneWaits (answer_told a)

abbrev pub record_told : ℕ → Answer → Told
record_told x a = cond (is_done a) (Record x) (answer_told a)

abbrev pub said : Talk → Told → Session → Said
said k a s = record { told = a; talk = record { session = s; given = k.given } }

abbrev pub replied : Talk → Reply → Said
replied k r = said k (answer_told r.answer) r.session

abbrev pub refused_of : Talk → ℕ → Said
refused_of k n = record { told = Refused n; talk = k }

abbrev pub supposition_of : Closings → Talk → ℕ → ℕ → Said
supposition_of C k x y = replied k (suppose_of C k.session x y)

abbrev pub question_of : Closings → Talk → ℕ → ℕ → Said
question_of C k x y = replied k (ask_of C k.session x y)

abbrev pub back_of : Closings → Talk → Said
back_of C k = replied k (take_back_of C k.session)

abbrev pub looked : Talk → Reply → Said
looked k r = said k (waits_told r.answer) r.session

abbrev pub look_of : Closings → Talk → Said
look_of C k = looked k (waiting_of C k.session)

unfoldable pub model_of : Closings → Talk → ℕ → Said
model_of C k n = cond (modelled n) (replied k (afresh_of C k.session.trace n k.session.stack)) (refused_of k (reason_number session.NoModel))

abbrev pub added : Talk → Reply → Said
added k r = said k (record_told k.session.trace.len r.answer) r.session

abbrev pub addition_of : Closings → Talk → Op → Said
addition_of C k o = added k (add_of C k.session o)

abbrev pub turn_said : Closings → Talk → Result Op Reason → Said
turn_said C k (Ok o) = addition_of C k o
turn_said C k (Err r) = refused_of k (number_of r)

abbrev pub whole : List ℕ → Line
whole bytes = record { bytes = bytes; ended = true }

unfoldable pub first_value : Talk → List ℕ → Option Init
first_value k bytes = cond (eqb k.session.trace.len 0) (init_given k.given (whole bytes)) None

abbrev pub begun_with : Talk → ℕ → Told → Session → Said
begun_with k a d s = record { told = d; talk = record { session = s; given = set k.given a true } }

abbrev pub begun : Talk → ℕ → Reply → Said
begun k a r = begun_with k a (answer_told r.answer) r.session

abbrev pub beginning_of : Closings → Talk → ℕ → ℕ → Said
beginning_of C k a v = begun k a (open_of C (started k.session.trace a v) k.session.model)

abbrev pub begun_or : Closings → Talk → List ℕ → Option Init → Said
begun_or C k bytes (Some i) = beginning_of C k i.addr i.value
begun_or C k bytes None = turn_said C k (turned k.session.trace (whole bytes))

unfoldable pub line_said : Closings → Talk → List ℕ → Said
line_said C k bytes = begun_or C k bytes (first_value k bytes)

abbrev pub asked_of : Closings → Talk → List ℕ → Command → Said
asked_of C k bytes (Suppose x y) = supposition_of C k x y
asked_of C k bytes (Ask x y) = question_of C k x y
asked_of C k bytes TakeBack = back_of C k
asked_of C k bytes Waiting = look_of C k
asked_of C k bytes (Model n) = model_of C k n
asked_of C k bytes Nothing = line_said C k bytes

unfoldable pub talk_answer : Closings → Talk → Line → Said
talk_answer C k l =
    cond (ltb LINE (length l.bytes)) (refused_of k (number_of reason.LongLine))
    (cond l.ended (asked_of C k l.bytes (command_of l.bytes)) (refused_of k (number_of reason.NoForm)))
