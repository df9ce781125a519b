-- `session::calls::open`: the session opened, and the one beside a refusal.
use mathlib.Core.Path.{sym, ap, ◌∙◌}
use Rattle.session.specs.Opening.{is_done, openable}
use Rattle.session.specs.Session.{afresh}
use Rattle.session.proofs.Pairs.{stands-none, none-standing}
use Rattle.session.proofs.Answering.{open_done, open-refused}
use Rattle.session.proofs.calls.open.Goals as goal

pub made-session-requires : goal.made-session-requires
unfolding openable
made-session-requires c = (sym (ap is_done c.opening-answer.ensures) ∙ sym c.done.ensures ∙ c.if-done.true, stands-none _ _ c.unsupposed.ensures)

pub returns-then-done : goal.returns-then-done
returns-then-done c = λ C.
    let t = c.args.t in
    open_done C _ _ _ c.opening-answer.ensures (sym c.done.ensures ∙ c.if-done.true) _
    (c.made-session.ensures C ∙ ap (afresh C t c.args.model) (none-standing t _ c.unsupposed.ensures))

pub returns : goal.returns
returns c = λ C.
    open-refused C _ _ _ c.opening-answer.ensures (sym c.done.ensures ∙ c.if-done.false) _ (c.blank-session.ensures C)
