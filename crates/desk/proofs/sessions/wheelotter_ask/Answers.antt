-- `desk::sessions::wheelotter_ask`: what the table says, of the session that the bytes are.
use mathlib.Core.Path.{◌∙◌}
use borrow.Author.Tests.{not-true, not-false}
use Rattle.session.specs.Numbers.{asks}
use Rattle.desk.proofs.Acting.{act-turned, act-answers}
use Rattle.desk.proofs.sessions.wheelotter_ask.Goals as goal

pub returns-then-not-found : goal.returns-then-not-found
returns-then-not-found c = λ C.
    (act-turned C _ _ (c.kept-found.ensures C) (not-true _ c.if-not-found.true) (asks c.args.x c.args.y)).0

pub returns : goal.returns
returns c = λ C.
    c.code.ensures ∙ act-answers C _ _ (c.kept-found.ensures C) (not-false _ c.if-not-found.false) (asks c.args.x c.args.y) _ (c.ask-reply.ensures C)
