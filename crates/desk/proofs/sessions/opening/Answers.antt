-- `desk::sessions::opening`: what is wrong with what was read, or with opening a session on its trace.
use mathlib.Core.Path.{sym, ap, ◌∙◌}
use Rattle.session.specs.Entries.{open_of}
use Rattle.session.specs.declared.Reply.{Reply}
use Rattle.session.proofs.Forcing.{closings-some}
use Rattle.desk.specs.SessionCalls.{code_of}
use Rattle.desk.proofs.Opens.{bad-number, bad-session, good-number, good-session}
use Rattle.desk.proofs.sessions.opening.Goals as goal

pub returns-then-number-ne0 : goal.returns-then-number-ne0
returns-then-number-ne0 c = let d = c.if-number-ne0.true in (sym (bad-number _ _ _ d), λ C. c.blank-session.ensures C ∙ sym (bad-session _ _ _ d C))

pub returns : goal.returns
unfolding open_of
returns c =
    let g = c.if-number-ne0.false in
    (c.code.ensures ∙ ap (λ (r : Reply). code_of r.answer) (c.open-reply.ensures closings-some) ∙ sym (good-number _ _ _ g), λ C. ap (λ (r : Reply). r.session) (c.open-reply.ensures C) ∙ sym (good-session _ _ _ g C))
