-- `session::calls::unsupposed`: the empty list, as a session keeps it.
use mathlib.Core.Path.{refl}
use Rattle.session.specs.Stack.{stacked}
use Rattle.session.proofs.calls.unsupposed.Goals as goal

pub returns : goal.returns
unfolding stacked
returns c = refl
