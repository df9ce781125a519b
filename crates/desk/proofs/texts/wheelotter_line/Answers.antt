-- `desk::texts::wheelotter_line`: the line in what the reader answers.
use mathlib.Core.Path.{ap, ◌∙◌}
use Rattle.reader.specs.declared.Reading.{Reading}
use Rattle.reader.specs.BadLine.{line_in}
use Rattle.desk.proofs.texts.wheelotter_line.Goals as goal

pub returns : goal.returns
returns c = c.line_in.ensures ∙ ap (λ (r : Reading). line_in r.answer) c.read-reading.ensures
