-- `talk::telling::answer`: length, then ending, then the call that the line makes.
use mathlib.Core.Path.{◌≡◌, sym, ap, ◌∙◌}
use borrow.Author.Tests.{lt-ltb, le-ltb, not-true, not-false}
use Rattle.reader.specs.Bounds.{LINE}
use Rattle.session.specs.Closings.{Closings}
use Rattle.talk.specs.Command.{command_of}
use Rattle.talk.specs.LineAnswers.{asked_of, talk_answer}
use Rattle.talk.specs.declared.asking.Command.{Command}
use Rattle.talk.specs.declared.telling.Said.{Said}
use Rattle.talk.proofs.Cutting.{asked-cut}
use Rattle.talk.proofs.telling.answer.Goals.{After-command_of}
use Rattle.talk.proofs.telling.answer.Goals as goal

pub returns-then-bytes-gt-LINE : goal.returns-then-bytes-gt-LINE
unfolding talk_answer
returns-then-bytes-gt-LINE c = λ C. rw (lt-ltb LINE _ c.if-bytes-gt-LINE.true) c.refused.ensures

pub returns-then-not-ended : goal.returns-then-not-ended
unfolding talk_answer
returns-then-not-ended c = λ C.
    rw (le-ltb LINE _ c.if-bytes-gt-LINE.false, not-true c.args.ended c.if-not-ended.true-raw) c.refused-then-not-ended.ensures

-- what the call is answered is what the line is
here : (c : After-command_of) (C : Closings) (r : Said) (m : Command) → c.command_of.result ≡ m → let a = c.args in
    r ≡ asked_of C a.talk a.bytes.now m → r ≡ talk_answer C a.talk (record { bytes = a.bytes.now; ended = a.ended })
unfolding talk_answer
here c C r m g e =
    let a = c.args in
    rw (le-ltb LINE _ c.if-bytes-gt-LINE.false, not-false a.ended c.if-not-ended.false-raw)
    (e ∙ ap (asked_of C a.talk a.bytes.now) (sym g ∙ c.command_of.ensures) ∙ asked-cut C a.talk a.bytes.now (command_of a.bytes.now))

pub returns-in-Suppose : goal.returns-in-Suppose
returns-in-Suppose c = λ C. here (goal.at.returns-in-Suppose c).After-command_of C _ _ c.in-Suppose.is (c.supposition.ensures C)

pub returns-in-Ask : goal.returns-in-Ask
returns-in-Ask c = λ C. here (goal.at.returns-in-Ask c).After-command_of C _ _ c.in-Ask.is (c.question.ensures C)

pub returns-in-TakeBack : goal.returns-in-TakeBack
returns-in-TakeBack c = λ C. here (goal.at.returns-in-TakeBack c).After-command_of C _ _ c.in-TakeBack.is (c.back.ensures C)

pub returns-in-Waiting : goal.returns-in-Waiting
returns-in-Waiting c = λ C. here (goal.at.returns-in-Waiting c).After-command_of C _ _ c.in-Waiting.is (c.look.ensures C)

pub returns-in-Model : goal.returns-in-Model
returns-in-Model c = λ C. here (goal.at.returns-in-Model c).After-command_of C _ _ c.in-Model.is (c.model.ensures C)

pub returns-in-Nothing : goal.returns-in-Nothing
returns-in-Nothing c = λ C. here (goal.at.returns-in-Nothing c).After-command_of C _ _ c.in-Nothing.is (c.line.ensures C)
