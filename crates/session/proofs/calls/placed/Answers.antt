-- `session::calls::placed`: a used place, and an unused one.
use mathlib.Core.Path.{refl}
use borrow.Author.Tests.{lt-ltb, le-ltb}
use Rattle.session.specs.Stack.{placed, is_unused}
use Rattle.session.proofs.calls.placed.Goals as goal

pub returns-then-i-k : goal.returns-then-i-k
unfolding placed
returns-then-i-k c = rw (lt-ltb _ _ c.if-i-k.true) c.supposable.ensures

pub returns : goal.returns
unfolding placed is_unused
returns c = rw (le-ltb _ _ c.if-i-k.false) refl
