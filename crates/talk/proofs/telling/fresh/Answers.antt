-- `talk::telling::fresh`: the session opened on the empty trace.
use mathlib.Core.Path.{ap, ◌∙◌}
use Rattle.trace.specs.Trace.{empty}
use Rattle.trace.specs.declared.Trace.{Trace}
use Rattle.pairs.specs.Kept.{SC}
use Rattle.session.specs.Entries.{open_of}
use Rattle.session.specs.declared.Session.{Session}
use Rattle.session.specs.declared.Reply.{Reply}
use Rattle.session.proofs.Openings.{empty-opens}
use Rattle.session.proofs.Standing.{opened}
use Rattle.talk.specs.LineAnswers.{ungiven, fresh_of}
use Rattle.talk.proofs.telling.fresh.Goals as goal

pub returns : goal.returns
unfolding fresh_of
returns c = λ C.
    ap (λ (s : Session). ungiven s) (ap (λ (r : Reply). r.session) (c.open-reply.ensures C ∙ ap (λ (t : Trace). open_of C t SC) c.empty.ensures) ∙ opened C empty SC empty-opens)
