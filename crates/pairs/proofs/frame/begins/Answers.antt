-- `pairs::frame::begins`: the parts of the definition, joined.
use Rattle.trace.specs.Meaning.{frame_of}
use Rattle.rules.specs.RuleTests.{writer?, first?}
use Rattle.pairs.specs.RecordTests.{writer_by}
use Rattle.pairs.proofs.frame.begins.Goals as goal

pub returns : goal.returns
unfolding frame_of first? writer? writer_by
returns c = (cc)
