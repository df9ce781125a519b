-- `lent`: the parts of the definition, joined.
use Rattle.trace.specs.Meaning.{frame_of}
use Rattle.rows.specs.Lent.{lent_of}
use Rattle.ruling.proofs.lent.Goals as goal

pub returns : goal.returns
unfolding frame_of lent_of
returns c = (cc)
