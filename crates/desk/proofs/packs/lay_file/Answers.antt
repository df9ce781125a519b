-- `desk::packs::lay_file`: the packed writer has room, and tells a length.
use mathlib.Core.Path.{ap, ◌∙◌}
use Rattle.desk.specs.Packs.{length_in}
use Rattle.desk.proofs.Counted.{laid-file}
use Rattle.desk.proofs.packs.lay_file.Goals as goal

pub returns : goal.returns
returns c =
    laid-file c.args.t c.requires.0 c.args.out.now c.requires.1 _ c.write-wrote.ensures.1 _ (c.length_in.ensures ∙ ap length_in c.write-wrote.ensures.0)
