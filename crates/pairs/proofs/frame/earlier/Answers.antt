-- `pairs::frame::earlier`: the test by records, of both.
use Rattle.trace.specs.Meaning.{frame_of}
use Rattle.pairs.specs.RecordTests.{earlier_by}
use Rattle.pairs.proofs.frame.earlier.Goals as goal

pub returns : goal.returns
unfolding frame_of earlier_by
returns c = (cc)
