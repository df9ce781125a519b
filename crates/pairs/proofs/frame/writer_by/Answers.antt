-- `pairs::frame::writer_by`: the parts of the definition, joined.
use Rattle.pairs.specs.RecordTests.{writer_by}
use Rattle.pairs.proofs.frame.writer_by.Goals as goal

pub returns : goal.returns
unfolding writer_by
returns c = (cc)
