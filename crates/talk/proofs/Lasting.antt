-- What stands after any lines of a talk.
--
--   fresh-afresh == a talk begins as the notes before the first line say
--   talk-afresh  == after a line its session is the one made afresh on what is noted of it
--   noted-sound  == on which such a session can be made
--   lines-afresh == so after any lines
use mathlib.Core.Path.{◌≡◌, refl, sym, ap, ◌∙◌}
use mathlib.Core.Bool.{Bool, true, false, So, cond, ◌&&◌}
use mathlib.Core.List.{List, [], ◌∷◌}
use Prim.Native.Nat.{ℕ}
use native.Mathlib.Omega.{arith}
use lib.Dec.{eqb, ltb}
use lib.ListN.{length, set}
use borrow.Author.Tests.{eqb-true}
use Rattle.laws.proofs.Tests.{and-iff, same-iff}
use Rattle.std.specs.Prelude.{Option, Some, None, Result, Ok, Err}
use Rattle.trace.specs.Trace.{empty, started}
use Rattle.trace.specs.declared.Op.{Op}
use Rattle.trace.proofs.Growth.{started-well}
use Rattle.pairs.specs.Kept.{modelled}
use Rattle.text.specs.Lines.{Line}
use Rattle.reader.specs.Bounds.{LINE}
use Rattle.reader.specs.Answer.{turned, init_given}
use Rattle.reader.specs.LineForms.{init}
use Rattle.reader.specs.declared.Init.{Init}
use Rattle.reader.specs.declared.Reason.{Reason}
use Rattle.reader.proofs.Begins.{begins-good}
use Rattle.session.specs.Stack.{stacked, stands}
use Rattle.session.specs.Opening.{openable}
use Rattle.session.specs.Closings.{Closings}
use Rattle.session.specs.Session.{afresh}
use Rattle.session.specs.Entries.{afresh_of}
use Rattle.session.specs.Numbers.{Act, supposes, takes_back, asks, adds, awaits, reply_of}
use Rattle.session.specs.declared.Reply.{Reply}
use Rattle.session.specs.declared.Session.{Session}
use Rattle.session.proofs.Pairs.{none_allowed, allowed-stands, standing-stacked, stands-iff}
use Rattle.session.proofs.Openings.{openable-iff, empty-opens}
use Rattle.session.proofs.Answering.{afresh-done}
use Rattle.session.proofs.Standing.{act-kept, kept-allowed, recorded-opens, opened}
use Rattle.talk.specs.Command.{command_of}
use Rattle.talk.specs.LineAnswers.{fresh_of, replied, refused_of, whole, turn_said, first_value, begun_or, line_said, model_of, asked_of, talk_answer}
use Rattle.talk.specs.Noted.{Notes, unspoken, Sound, with_given, talk_of, acted, first_noted, turn_noted, first_or, line_noted, model_noted, asked_noted, noted, talk_after, noted_after}
use Rattle.talk.specs.declared.asking.Command.{Command}
use Rattle.talk.specs.declared.asking.Command.TheVariants.{Suppose, Ask, TakeBack, Waiting, Model, Nothing}
use Rattle.talk.specs.declared.telling.Talk.{Talk}
use Rattle.talk.specs.declared.telling.Said.{Said}

-- the session of a reply, and the talk after a line
abbrev left : Reply → Session
left r = r.session

abbrev after : Said → Talk
after d = d.talk

pub fresh-afresh : (C : Closings) → fresh_of C ≡ talk_of C unspoken
unfolding fresh_of
fresh-afresh C = refl

pub unspoken-sound : Sound unspoken
unspoken-sound = record { opens = empty-opens; allowed = none_allowed empty }

module _ (q : Notes) (s : Sound q) where
  acted-sound : (a : Act) → Sound (acted q a)
  acted-sound a = record { opens = recorded-opens q.trace q.model s.opens a; allowed = kept-allowed q.trace q.pairs s.allowed a }

  -- another model opens as well
  other-opens : (n : ℕ) → So (modelled n) → So (openable q.trace n)
  other-opens n h = (openable-iff q.trace n).1 (record { model = h; form = ((openable-iff q.trace q.model).0 s.opens).form })

  model-sound : (n : ℕ) → Sound (model_noted q n)
  model-sound n = go (modelled n) refl
    where
      go : (b : Bool) → modelled n ≡ b → Sound (cond b (record { trace = q.trace; model = n; pairs = q.pairs; given = q.given }) q)
      go true e = record { opens = other-opens n e; allowed = s.allowed }
      go false e = s

  -- what an init line that gives a first value says
  first-opens : (bytes : List ℕ) (a v : ℕ) → first_noted q bytes ≡ Some (init a v) → So (openable (started q.trace a v) q.model)
  first-opens bytes a v = go (eqb q.trace.len 0) refl
    where
      go : (b : Bool) → eqb q.trace.len 0 ≡ b → cond b (init_given q.given (whole bytes)) None ≡ Some (init a v) → So (openable (started q.trace a v) q.model)
      go true e f =
          let o = (openable-iff q.trace q.model).0 s.opens in
          (openable-iff (started q.trace a v) q.model).1 (record { model = o.model; form = started-well q.trace a v (eqb-true _ _ e) (begins-good q.given (whole bytes) a v f).value o.form })
      go false e f = let z : ◌≡◌ {A = ℕ} 0 1 = cc in absurd (omega arith)

  turn-sound : (r : Result Op Reason) → Sound (turn_noted q r)
  turn-sound (Ok o) = acted-sound (adds o)
  turn-sound (Err r) = s

  line-sound : (bytes : List ℕ) → Sound (line_noted q bytes)
  line-sound bytes = go (first_noted q bytes) refl
    where
      go : (i : Option Init) → first_noted q bytes ≡ i → Sound (first_or q bytes i)
      go (Some i) e = record { opens = first-opens bytes i.addr i.value e; allowed = none_allowed (started q.trace i.addr i.value) }
      go None e = turn-sound (turned q.trace (whole bytes))

  asked-sound : (bytes : List ℕ) (c : Command) → Sound (asked_noted q bytes c)
  asked-sound bytes (Suppose x y) = acted-sound (supposes x y)
  asked-sound bytes (Ask x y) = acted-sound (asks x y)
  asked-sound bytes TakeBack = acted-sound takes_back
  asked-sound bytes Waiting = acted-sound awaits
  asked-sound bytes (Model n) = model-sound n
  asked-sound bytes Nothing = line-sound bytes

  pub noted-sound : (l : Line) → Sound (noted q l)
  unfolding noted
  noted-sound l = go (ltb LINE (length l.bytes)) l.ended
    where
      go : (b e : Bool) → Sound (cond b q (cond e (asked_noted q l.bytes (command_of l.bytes)) q))
      go true e = s
      go false true = asked-sound l.bytes (command_of l.bytes)
      go false false = s

  module _ (C : Closings) where
    -- the talk, and its session
    abbrev here : Talk
    here = talk_of C q

    kept_by : (a : Act) → with_given q.given (left (reply_of C here.session a)) ≡ talk_of C (acted q a)
    kept_by a = ap (with_given q.given) (act-kept C q.trace q.model s.opens q.pairs s.allowed a)

    model-afresh : (n : ℕ) → after (model_of C here n) ≡ talk_of C (model_noted q n)
    unfolding model_of afresh
    model-afresh n = go (modelled n) refl
      where
        go : (b : Bool) → modelled n ≡ b → after (cond b (replied here (afresh_of C q.trace n (stacked q.pairs))) (refused_of here 9)) ≡ talk_of C (cond b (record { trace = q.trace; model = n; pairs = q.pairs; given = q.given }) q)
        go true e =
            let d : So (openable q.trace n && stands q.trace (stacked q.pairs)) = (and-iff same-iff (stands-iff q.trace (stacked q.pairs))).1 (other-opens n e, allowed-stands q.trace q.pairs s.allowed) in
            ap (λ (r : Reply). with_given q.given (left r)) (sym (afresh-done C q.trace n (stacked q.pairs) d (afresh C q.trace n q.pairs) (ap (afresh C q.trace n) (sym (standing-stacked q.trace q.pairs)))))
        go false e = refl

    turn-afresh : (r : Result Op Reason) → after (turn_said C here r) ≡ talk_of C (turn_noted q r)
    turn-afresh (Ok o) = kept_by (adds o)
    turn-afresh (Err r) = refl

    line-afresh : (bytes : List ℕ) → after (line_said C here bytes) ≡ talk_of C (line_noted q bytes)
    unfolding line_said first_value afresh
    line-afresh bytes = go (first_noted q bytes) refl
      where
        go : (i : Option Init) → first_noted q bytes ≡ i → after (begun_or C here bytes i) ≡ talk_of C (first_or q bytes i)
        go (Some i) e = ap (with_given (set q.given i.addr true)) (opened C (started q.trace i.addr i.value) q.model (first-opens bytes i.addr i.value e))
        go None e = turn-afresh (turned q.trace (whole bytes))

    asked-afresh : (bytes : List ℕ) (c : Command) → after (asked_of C here bytes c) ≡ talk_of C (asked_noted q bytes c)
    asked-afresh bytes (Suppose x y) = kept_by (supposes x y)
    asked-afresh bytes (Ask x y) = kept_by (asks x y)
    asked-afresh bytes TakeBack = kept_by takes_back
    asked-afresh bytes Waiting = kept_by awaits
    asked-afresh bytes (Model n) = model-afresh n
    asked-afresh bytes Nothing = line-afresh bytes

    pub talk-afresh : (l : Line) → after (talk_answer C here l) ≡ talk_of C (noted q l)
    unfolding noted talk_answer
    talk-afresh l = go (ltb LINE (length l.bytes)) l.ended
      where
        go : (b e : Bool) → after (cond b (refused_of here 2) (cond e (asked_of C here l.bytes (command_of l.bytes)) (refused_of here 3))) ≡ talk_of C (cond b q (cond e (asked_noted q l.bytes (command_of l.bytes)) q))
        go true e = refl
        go false true = asked-afresh l.bytes (command_of l.bytes)
        go false false = refl

pub lines-afresh : (C : Closings) (ls : List Line) (q : Notes) → Sound q → talk_after C (talk_of C q) ls ≡ talk_of C (noted_after q ls)
unfolding talk_after noted_after
lines-afresh C [] q s = refl
lines-afresh C (l ∷ ls) q s = ap (λ (k : Talk). talk_after C k ls) (talk-afresh q s C l) ∙ lines-afresh C ls (noted q l) (noted-sound q s l)
