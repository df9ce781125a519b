-- `talk::telling::beginning`: the session opened afresh on the trace with its new first value.
use mathlib.Core.Path.{ap, ◌∙◌}
use Rattle.trace.specs.declared.Trace.{Trace}
use Rattle.session.specs.Entries.{open_of}
use Rattle.talk.specs.LineAnswers.{begun_with, begun}
use Rattle.talk.specs.declared.telling.Told.{Told}
use Rattle.talk.proofs.telling.beginning.Goals as goal

pub returns : goal.returns
returns c = λ C.
    let a = c.args in
    ap (λ (d : Told). begun_with a.talk a.addr d c.open-reply.result.session) c.told_of.ensures
    ∙ ap (begun a.talk a.addr) (c.open-reply.ensures C ∙ ap (λ (t : Trace). open_of C t a.talk.session.model) c.started-t.ensures)
