-- `night::seeing::read_as`: by the kind of the operation.
use mathlib.Core.Path.{sym, ap}
use Rattle.trace.specs.declared.Op.{Op}
use Rattle.night.specs.FilledReads.{read_as}
use Rattle.night.proofs.seeing.read_as.Goals as goal

pub returns-in-Load : goal.returns-in-Load
returns-in-Load c = sym (ap (λ (o : Op). read_as o c.args.value) c.in-Load.is)

pub returns-in-Swap : goal.returns-in-Swap
returns-in-Swap c = sym (ap (λ (o : Op). read_as o c.args.value) c.in-Swap.is)
