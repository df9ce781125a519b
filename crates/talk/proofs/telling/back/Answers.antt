-- `talk::telling::back`: what the session replies, told.
use mathlib.Core.Path.{ap, ◌∙◌}
use Rattle.talk.specs.LineAnswers.{said, replied}
use Rattle.talk.specs.declared.telling.Told.{Told}
use Rattle.talk.proofs.telling.back.Goals as goal

pub returns : goal.returns
returns c = λ C.
    let k = c.args.talk in
    ap (λ (d : Told). said k d c.take_back-reply.result.session) c.told_of.ensures ∙ ap (replied k) (c.take_back-reply.ensures C)
