-- `desk::packs::lay_text`: the text has room.
use Rattle.desk.proofs.Counted.{laid-text}
use Rattle.desk.proofs.packs.lay_text.Goals as goal

pub returns : goal.returns
returns c =
    laid-text c.args.t c.requires.0 c.args.out.now c.requires.1 _ c.render.ensures.1 _ c.render.ensures.0
