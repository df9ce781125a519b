-- `search::seek::unread`: none of the unplaced readers passed reads from y.
use mathlib.Core.Bool.{false≢true}
use mathlib.Core.Path.{◌≡◌}
use native.Mathlib.Omega.{arith}
use lib.ListN.{get_or}
use Rattle.edges.proofs.DrawnEdges.{next-seen}
use Rattle.search.proofs.Candidates.{next-on, in_rest}
use Rattle.search.proofs.seek.unread.Goals as goal

pub loop-load-init : goal.loop-load-init
loop-load-init c = λ x h t. absurd (c.next-load.ensures.skips x (omega arith) h t)

pub returns-then-sources-load : goal.returns-then-sources-load
returns-then-sources-load c = λ t. absurd (false≢true t)

pub overflow_add-load : goal.overflow_add-load
overflow_add-load c = omega (arith, c.loop-load-test.true, c.requires)

pub loop-load-smaller : goal.loop-load-smaller
loop-load-smaller c = omega (arith, next-on _ c.loop-load.load _ c.next-load-in-loop-load.ensures (omega (arith, c.loop-load-test.true, c.requires)))

pub loop-load-preserved : goal.loop-load-preserved
loop-load-preserved c = next-seen {P = λ L. get_or c.args.sources.now L 0 ≡ c.args.y → ⊥} _ c.loop-load.load _ c.loop-load.invariant (λ _. c.if-sources-load.false) c.next-load-in-loop-load.ensures

pub returns : goal.returns
returns c = λ _ L h r e. in_rest c.rest-waiting.ensures L r (λ u. c.loop-load.invariant L (omega (arith, c.loop-load-test.false)) u e)
