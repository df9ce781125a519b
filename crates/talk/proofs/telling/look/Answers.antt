-- `talk::telling::look`: what the session replies, told.
use mathlib.Core.Path.{ap, ◌∙◌}
use Rattle.talk.specs.LineAnswers.{said, looked}
use Rattle.talk.specs.declared.telling.Told.{Told}
use Rattle.talk.proofs.telling.look.Goals as goal

pub returns : goal.returns
returns c = λ C.
    let k = c.args.talk in
    ap (λ (d : Told). said k d c.waiting-reply.result.session) c.waits.ensures ∙ ap (looked k) (c.waiting-reply.ensures C)
