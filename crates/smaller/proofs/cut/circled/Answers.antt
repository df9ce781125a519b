-- `smaller::cut::circled`: no order keeps what closes a circle.
use Rattle.smaller.proofs.Cutting.{circled-none}
use Rattle.smaller.proofs.cut.circled.Goals as goal

pub returns : goal.returns
returns c = circled-none c.args.t c.requires.0 c.args.model c.requires.1 c.forced.result c.forced.ensures
