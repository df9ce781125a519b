-- `talk::telling::supposition`: what the session replies, told.
use mathlib.Core.Path.{ap, ◌∙◌}
use Rattle.talk.specs.LineAnswers.{said, replied}
use Rattle.talk.specs.declared.telling.Told.{Told}
use Rattle.talk.proofs.telling.supposition.Goals as goal

pub returns : goal.returns
returns c = λ C.
    let k = c.args.talk in
    ap (λ (d : Told). said k d c.suppose-reply.result.session) c.told_of.ensures ∙ ap (replied k) (c.suppose-reply.ensures C)
