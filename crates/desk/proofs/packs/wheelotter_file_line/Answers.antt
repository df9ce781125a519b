-- `desk::packs::wheelotter_file_line`: the line in what the packed reader answers.
use mathlib.Core.Path.{ap, ◌∙◌}
use Rattle.packed.specs.declared.Reading.{Reading}
use Rattle.desk.specs.Packs.{file_line_in}
use Rattle.desk.proofs.packs.wheelotter_file_line.Goals as goal

pub returns : goal.returns
returns c = c.line_in.ensures ∙ ap (λ (r : Reading). file_line_in r.answer) c.read_whole-reading.ensures
