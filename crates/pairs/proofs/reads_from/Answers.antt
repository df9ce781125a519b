-- `pairs::reads_from`: the parts of the definition, joined.
use Rattle.pairs.specs.SourceOf.{reads_from}
use Rattle.pairs.proofs.reads_from.Goals as goal

pub returns : goal.returns
unfolding reads_from
returns c = (cc)
