-- `pairs::frame::source`: the parts of the definition, joined.
use Rattle.trace.specs.Meaning.{frame_of}
use Rattle.rules.specs.RuleTests.{writer?, source?}
use Rattle.pairs.specs.RecordTests.{writer_by}
use Rattle.pairs.proofs.frame.source.Goals as goal

pub returns : goal.returns
unfolding frame_of source? writer? writer_by
returns c = (cc)
