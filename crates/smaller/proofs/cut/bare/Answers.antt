-- `smaller::cut::bare`: the empty trace, and no old numbers.
use mathlib.Core.Path.{ap}
use lib.ListN.{replicate}
use Rattle.trace.specs.Bounds.{RECORDS}
use Rattle.trace.specs.declared.Trace.{Trace}
use Rattle.smaller.proofs.cut.bare.Goals as goal

pub returns : goal.returns
returns c = ap (λ (t : Trace). record { answer = c.args.answer; trace = t; olds = replicate RECORDS 0 }) c.empty.ensures
