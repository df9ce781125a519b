-- `choice::rivals`: the test of the definition.
use Rattle.trace.specs.Meaning.{frame_of}
use Rattle.reasons.proofs.choice.rivals.Goals as goal

pub returns : goal.returns
unfolding frame_of
returns c = (cc)
