-- `search::seek::covered`: each of the writers passed that is still to come has an unplaced one before it.
use mathlib.Core.Bool.{So, false≢true}
use Prim.Native.Nat.{ℕ}
use native.Mathlib.Omega.{arith}
use borrow.Author.Tests.{not-false}
use Rattle.rows.proofs.Rows.{bit-bounds}
use Rattle.rows.specs.Rows.{bit}
use Rattle.edges.proofs.DrawnEdges.{next-seen}
use Rattle.search.proofs.Candidates.{next-on}
use Rattle.search.proofs.seek.covered.Goals as goal

pub loop-z-init : goal.loop-z-init
loop-z-init c = λ x h t. absurd (c.next-z.ensures.skips x (omega arith) h t)

pub returns-then-not-meets : goal.returns-then-not-meets
returns-then-not-meets c = λ t. absurd (false≢true t)

pub overflow_add-z : goal.overflow_add-z
overflow_add-z c = omega arith

pub loop-z-smaller : goal.loop-z-smaller
loop-z-smaller c = omega (arith, next-on _ c.loop-z.z _ c.next-z-in-loop-z.ensures (omega (arith, c.loop-z-test.true)))

pub loop-z-preserved : goal.loop-z-preserved
loop-z-preserved c = let a = c.args in
    next-seen {P = λ x. (w : ℕ) × So (bit a.before.now x w) × So (bit a.writers.now x w) × (So (bit a.placed.now 0 w) → ⊥)} _ c.loop-z.z _ c.loop-z.invariant
    (λ _. let (w, p, q) = c.meets.ensures.0 (not-false _ c.if-not-meets.false-raw) in
    let h = (c.rest-ahead.ensures.has w).0 p in (w, h.0, q, h.1)) c.next-z-in-loop-z.ensures

pub returns : goal.returns
returns c = λ _ z s. c.loop-z.invariant z (omega (arith, c.loop-z-test.false, (bit-bounds _ _ _ s.writer).1)) ((c.rest-others.ensures.has z).1 ((c.rest-unplaced.ensures.has z).1 (s.writer, s.unplaced), s.untried))
