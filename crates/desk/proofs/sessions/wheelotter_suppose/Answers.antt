-- `desk::sessions::wheelotter_suppose`: a pair more, on the session that the bytes are.
use mathlib.Core.Path.{refl, ◌∙◌}
use borrow.Author.Tests.{not-true, not-false}
use Rattle.session.proofs.Forcing.{closings-some}
use Rattle.session.specs.Numbers.{supposes}
use Rattle.desk.proofs.Acting.{act-turned, act-leaves, act-answers, act-lays}
use Rattle.desk.proofs.sessions.wheelotter_suppose.Goals as goal

pub returns-then-not-found : goal.returns-then-not-found
returns-then-not-found c = λ C.
    act-turned C _ _ (c.kept-found.ensures C) (not-true _ c.if-not-found.true) (supposes c.args.x c.args.y)

pub leave-requires : goal.leave-requires
leave-requires c =
    act-leaves closings-some _ _ (c.kept-found.ensures closings-some) (not-false _ c.if-not-found.false) (supposes c.args.x c.args.y) _ (c.suppose.ensures closings-some)

pub returns : goal.returns
returns c = λ C.
    let on = not-false _ c.if-not-found.false in (
      c.leave.ensures.0 ∙ act-answers C _ _ (c.kept-found.ensures C) on (supposes c.args.x c.args.y) _ (c.suppose.ensures C),
      c.leave.ensures.1 ∙ act-lays C _ _ (c.kept-found.ensures C) on (supposes c.args.x c.args.y) _ (c.suppose.ensures C) refl,
    )
