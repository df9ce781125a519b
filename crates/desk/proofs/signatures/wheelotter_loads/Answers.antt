-- `desk::signatures::wheelotter_loads`: of the trace that the text writes.
use mathlib.Core.Path.{ap, ◌∙◌}
use Rattle.reader.specs.declared.Reading.{Reading}
use Rattle.signature.specs.SignatureAnswers.{loads_in}
use Rattle.desk.proofs.signatures.wheelotter_loads.Goals as goal

pub returns : goal.returns
returns c = c.loads_of.ensures ∙ ap (λ (r : Reading). loads_in r.trace) c.read_whole-reading.ensures
