-- `desk::sessions::blank`: the empty trace opens under model 1.
use mathlib.Core.Path.{ap, ◌∙◌}
use Rattle.trace.specs.declared.Trace.{Trace}
use Rattle.pairs.specs.Kept.{SC}
use Rattle.session.specs.Entries.{open_of}
use Rattle.session.specs.declared.Reply.{Reply}
use Rattle.session.proofs.Lasting.{blank-opened}
use Rattle.desk.proofs.sessions.blank.Goals as goal

pub returns : goal.returns
returns c = λ C. ap (λ (r : Reply). r.session) (c.open-reply.ensures C ∙ ap (λ (t : Trace). open_of C t SC) c.empty.ensures) ∙ blank-opened C
