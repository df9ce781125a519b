-- `papers::reading::divides`: the parts of the test, joined.
use Rattle.papers.proofs.reading.divides.Goals as goal

pub returns : goal.returns
returns c = cc
