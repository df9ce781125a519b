-- `talk::telling::addition`: what the session replies, told with the number of the record.
use mathlib.Core.Path.{ap, ◌∙◌}
use Rattle.talk.specs.LineAnswers.{said, added}
use Rattle.talk.specs.declared.telling.Told.{Told}
use Rattle.talk.proofs.telling.addition.Goals as goal

pub returns : goal.returns
returns c = λ C.
    let k = c.args.talk in
    ap (λ (d : Told). said k d c.add-reply.result.session) c.recorded.ensures ∙ ap (added k) (c.add-reply.ensures C)
