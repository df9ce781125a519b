-- `search::split::divided`: a pair whose two sides fall leaves no ranking.
use mathlib.Core.Bool.{false≢true}
use mathlib.Core.Path.{◌≡◌}
use Prim.Native.Nat.{◌+◌}
use native.Mathlib.Omega.{arith}
use lib.ListN.{length}
use Rattle.search.proofs.Candidates.{next-on}
use Rattle.search.proofs.Refutation.{both-fall}
use Rattle.search.proofs.split.divided.Goals.{else-y-lt-RECORDS, then-y-lt-RECORDS+else-falls}
use Rattle.search.proofs.split.divided.Goals as goal

pub partner-y-requires : goal.partner-y-requires
partner-y-requires c = omega (arith, c.loop-x-test.true, c.requires.0)

pub falls-requires : goal.falls-requires
falls-requires c = (c.requires.0, c.requires.1, omega (arith, c.if-y-lt-RECORDS.true))

pub falls-requires-then-falls : goal.falls-requires-then-falls
falls-requires-then-falls c = (c.requires.0, c.requires.1, omega (arith, c.loop-x-test.true, c.requires.0))

pub returns-then-falls-2 : goal.returns-then-falls-2
returns-then-falls-2 c = λ _.
    let a = c.args in
    both-fall (length a.sources.now) a.writers.now a.sources.now a.placed.now c.loop-x.x c.partner-y.result c.loop-x-test.true (c.partner-y.ensures (omega (arith, c.if-y-lt-RECORDS.true))) a.led.now (c.falls.ensures c.if-falls.true) (c.falls-then-falls.ensures c.if-falls-2.true)

pub overflow_add-tries : goal.overflow_add-tries
overflow_add-tries c = omega (arith, c.loop-x.invariant, c.loop-x-test.true, c.requires.0)

pub returns-then-tries-ge-TRIES : goal.returns-then-tries-ge-TRIES
returns-then-tries-ge-TRIES c = λ t. absurd (false≢true t)

pub overflow_add-x : goal.overflow_add-x
overflow_add-x c = omega (arith, c.loop-x-test.true, c.requires.0)

pub loop-x-smaller : goal.loop-x-smaller
loop-x-smaller c = omega (arith, next-on c.args.left.now c.loop-x.x _ c.next-x-in-loop-x.ensures (omega (arith, c.loop-x-test.true, c.requires.0)))

pub loop-x-preserved : goal.loop-x-preserved
loop-x-preserved c =
    let l = c.loop-x in
    let up = next-on c.args.left.now l.x _ c.next-x-in-loop-x.ensures (omega (arith, c.loop-x-test.true, c.requires.0)) in
    (elim c.if-y-lt-RECORDS.branch [ then-y-lt-RECORDS+else-falls w ↦ let e : c.if-y-lt-RECORDS.tries ≡ l.tries + 1 = w.tries-is in omega (arith, e, up, l.invariant) | else-y-lt-RECORDS w ↦ let e : c.if-y-lt-RECORDS.tries ≡ l.tries = w.tries-is in omega (arith, e, up, l.invariant) ])

pub returns : goal.returns
returns c = λ t. absurd (false≢true t)
