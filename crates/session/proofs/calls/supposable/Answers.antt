-- `session::calls::supposable`: the three tests of the definition.
use Rattle.session.specs.Stack.{supposable}
use Rattle.session.proofs.calls.supposable.Goals as goal

pub returns : goal.returns
unfolding supposable
returns c = cc
