-- `desk::texts::wheelotter_number`: the number in what the reader answers.
use mathlib.Core.Path.{ap, ◌∙◌}
use Rattle.reader.specs.declared.Reading.{Reading}
use Rattle.desk.specs.Text.{number_in}
use Rattle.desk.proofs.texts.wheelotter_number.Goals as goal

pub returns : goal.returns
returns c = c.number_in.ensures ∙ ap (λ (r : Reading). number_in r.answer) c.read_whole-reading.ensures
