-- What the lines of a talk come to, as one who only notes them down would say: no table is worked out.
--
--   Notes              == the trace so far, the model, the pairs that stand, and which addresses have an init line
--   unspoken           == before the first line
--   Sound q            == a session can be opened on the trace under the model, and the pairs may stand on it
--   talk_of C q         == the talk whose session is made afresh on the notes
--   acted q a          == after a call on the session
--   first_noted q bytes == the address and value of an init line that gives a first value
--   turn_noted q turn   == after a line behind the records, as the reader takes it or turns it back
--   line_noted q bytes  == after a line that makes no call; no pair stands where there is no record
--   asked_noted q bytes c == after a line that makes the call c, if any
--   noted q l          == after any line
--   talk_after C k ls, noted_after q ls == the talk, and the notes, after any lines
use Rattle.std.specs.Prelude.{Bool, true, cond, List, [], ◌∷◌, ℕ, eqb, ltb, length, set, Option, Some, None, Result, Ok, Err}
use Rattle.std.proofs.Math.Bool.{So}
use Rattle.trace.specs.Trace.{empty, started}
use Rattle.trace.specs.declared.Op.{Op}
use Rattle.trace.specs.declared.Trace.{Trace}
use Rattle.pairs.specs.Kept.{SC, modelled}
use Rattle.text.specs.Lines.{Line}
use Rattle.reader.specs.Bounds.{LINE}
use Rattle.reader.specs.Answer.{turned, init_given}
use Rattle.reader.specs.Read.{none}
use Rattle.reader.specs.declared.Init.{Init}
use Rattle.reader.specs.declared.Reason.{Reason}
use Rattle.session.specs.Stack.{Allowed}
use Rattle.session.specs.Opening.{openable}
use Rattle.session.specs.Closings.{Closings}
use Rattle.session.specs.Session.{afresh}
use Rattle.session.specs.Numbers.{Act, supposes, takes_back, asks, adds, awaits}
use Rattle.session.specs.Calls.{pairs_after, recorded}
use Rattle.session.specs.declared.Pair.{Pair}
use Rattle.session.specs.declared.Session.{Session}
use Rattle.talk.specs.Command.{command_of}
use Rattle.talk.specs.LineAnswers.{whole, talk_answer}
use Rattle.talk.specs.declared.asking.Command.{Command}
use Rattle.talk.specs.declared.asking.Command.TheVariants.{Suppose, Ask, TakeBack, Waiting, Model, Nothing}
use Rattle.talk.specs.declared.telling.Talk.{Talk}

pub record Notes : Type 0 where
  pub trace : Trace
  pub model : ℕ
  pub pairs : List Pair
  pub given : List Bool

abbrev pub unspoken : Notes
unspoken = record { trace = empty; model = SC; pairs = []; given = none }

pub record Sound (q : Notes) : Type 0 where
  pub opens : So (openable q.trace q.model)
  pub allowed : Allowed q.trace q.pairs

-- a session, and the addresses that have an init line
abbrev pub with_given : List Bool → Session → Talk
with_given g s = record { session = s; given = g }

abbrev pub talk_of : Closings → Notes → Talk
talk_of C q = with_given q.given (afresh C q.trace q.model q.pairs)

abbrev pub acted : Notes → Act → Notes
acted q a = record { trace = recorded q.trace a; model = q.model; pairs = pairs_after q.trace q.pairs a; given = q.given }

abbrev pub first_noted : Notes → List ℕ → Option Init
first_noted q bytes = cond (eqb q.trace.len 0) (init_given q.given (whole bytes)) None

abbrev pub turn_noted : Notes → Result Op Reason → Notes
turn_noted q (Ok o) = acted q (adds o)
turn_noted q (Err r) = q

abbrev pub first_or : Notes → List ℕ → Option Init → Notes
first_or q bytes (Some i) = record { trace = started q.trace i.addr i.value; model = q.model; pairs = []; given = set q.given i.addr true }
first_or q bytes None = turn_noted q (turned q.trace (whole bytes))

abbrev pub line_noted : Notes → List ℕ → Notes
line_noted q bytes = first_or q bytes (first_noted q bytes)

abbrev pub model_noted : Notes → ℕ → Notes
model_noted q n = cond (modelled n) (record { trace = q.trace; model = n; pairs = q.pairs; given = q.given }) q

abbrev pub asked_noted : Notes → List ℕ → Command → Notes
asked_noted q bytes (Suppose x y) = acted q (supposes x y)
asked_noted q bytes (Ask x y) = acted q (asks x y)
asked_noted q bytes TakeBack = acted q takes_back
asked_noted q bytes Waiting = acted q awaits
asked_noted q bytes (Model n) = model_noted q n
asked_noted q bytes Nothing = line_noted q bytes

unfoldable pub noted : Notes → Line → Notes
noted q l = cond (ltb LINE (length l.bytes)) q (cond l.ended (asked_noted q l.bytes (command_of l.bytes)) q)

unfoldable pub talk_after : Closings → Talk → List Line → Talk
talk_after C k [] = k
talk_after C k (l ∷ ls) = talk_after C (talk_answer C k l).talk ls

unfoldable pub noted_after : Notes → List Line → Notes
noted_after q [] = q
noted_after q (l ∷ ls) = noted_after (noted q l) ls
