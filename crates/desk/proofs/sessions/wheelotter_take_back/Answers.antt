-- `desk::sessions::wheelotter_take_back`: without the latest pair, on the session that the bytes are.
use mathlib.Core.Path.{refl, ◌∙◌}
use borrow.Author.Tests.{not-true, not-false}
use Rattle.session.proofs.Forcing.{closings-some}
use Rattle.session.specs.Numbers.{takes_back}
use Rattle.desk.proofs.Acting.{act-turned, act-leaves, act-answers, act-lays}
use Rattle.desk.proofs.sessions.wheelotter_take_back.Goals as goal

pub returns-then-not-found : goal.returns-then-not-found
returns-then-not-found c = λ C.
    act-turned C _ _ (c.kept-found.ensures C) (not-true _ c.if-not-found.true) (takes_back)

pub leave-requires : goal.leave-requires
leave-requires c =
    act-leaves closings-some _ _ (c.kept-found.ensures closings-some) (not-false _ c.if-not-found.false) (takes_back) _ (c.take_back.ensures closings-some)

pub returns : goal.returns
returns c = λ C.
    let on = not-false _ c.if-not-found.false in (
      c.leave.ensures.0 ∙ act-answers C _ _ (c.kept-found.ensures C) on (takes_back) _ (c.take_back.ensures C),
      c.leave.ensures.1 ∙ act-lays C _ _ (c.kept-found.ensures C) on (takes_back) _ (c.take_back.ensures C) refl,
    )
