-- `desk::packs::wheelotter_file_number`: the number in what the packed reader answers.
use mathlib.Core.Path.{ap, ◌∙◌}
use Rattle.packed.specs.declared.Reading.{Reading}
use Rattle.desk.specs.File.{file_number_in}
use Rattle.desk.proofs.packs.wheelotter_file_number.Goals as goal

pub returns : goal.returns
returns c = c.number_in.ensures ∙ ap (λ (r : Reading). file_number_in r.answer) c.read_whole-reading.ensures
