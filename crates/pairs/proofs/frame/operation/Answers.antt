-- `pairs::frame::operation`: the parts of the definition, joined.
use Rattle.trace.specs.Meaning.{frame_of}
use Rattle.pairs.proofs.frame.operation.Goals as goal

pub returns : goal.returns
unfolding frame_of
returns c = (cc)
