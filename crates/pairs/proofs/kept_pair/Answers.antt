-- `pairs::kept_pair`: the parts of the definition, joined.
use Rattle.pairs.specs.Kept.{kept_pair}
use Rattle.pairs.proofs.kept_pair.Goals as goal

pub returns : goal.returns
unfolding kept_pair
returns c = (cc)
