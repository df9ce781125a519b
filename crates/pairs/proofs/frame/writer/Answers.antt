-- `pairs::frame::writer`: the test by records, of both.
use Rattle.trace.specs.Meaning.{frame_of}
use Rattle.rules.specs.RuleTests.{writer?}
use Rattle.pairs.specs.RecordTests.{writer_by}
use Rattle.pairs.proofs.frame.writer.Goals as goal

pub returns : goal.returns
unfolding frame_of writer? writer_by
returns c = (cc)
