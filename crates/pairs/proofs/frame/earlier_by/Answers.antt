-- `pairs::frame::earlier_by`: the parts of the definition, joined.
use Rattle.pairs.specs.RecordTests.{earlier_by}
use Rattle.pairs.proofs.frame.earlier_by.Goals as goal

pub returns : goal.returns
unfolding earlier_by
returns c = (cc)
