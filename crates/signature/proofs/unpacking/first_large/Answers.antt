-- `signature::unpacking::first_large`: none of those passed is larger.
use mathlib.Core.Path.{sym, ap}
use Prim.Native.Nat.{◌%◌, ◌<◌}
use native.Mathlib.Nat.{mod-lt}
use native.Mathlib.Omega.{arith}
use lib.ListN.{length}
use borrow.Author.Tests.{lt-ltb, le-ltb}
use Rattle.laws.proofs.LowestLoops.{none_below, more-below, lowest-found, lowest-nothing}
use Rattle.signature.specs.inner.LoadLists.{found_of, over}
use Rattle.signature.proofs.unpacking.first_large.Goals.{In-loop-k}
use Rattle.signature.proofs.unpacking.first_large.Goals as goal

-- a run has words where there are any
has : (c : In-loop-k) → 0 < c.args.largest.count
has c = c.requires.1 (omega (arith, c.loop-k-test.true))

-- so a place among them is one of the array's
place : (c : In-loop-k) → c.loop-k.k % c.args.largest.count < c.args.largest.count
place c = mod-lt c.loop-k.k (has c)

pub loop-k-init : goal.loop-k-init
loop-k-init c = none_below (over c.args.largest.of c.args.largest.count c.args.words.now)

pub nonzero_rem-k : goal.nonzero_rem-k
nonzero_rem-k c = omega (arith, has c)

pub offset_bounds-largest-k : goal.offset_bounds-largest-k
offset_bounds-largest-k c = omega (arith, place c, c.requires.0)

pub bounds-largest-k : goal.bounds-largest-k
bounds-largest-k c = omega (arith, place c, c.requires.0)

pub returns-then-largest-k : goal.returns-then-largest-k
unfolding over
returns-then-largest-k c =
    let a = c.args in
    ap found_of (sym (lowest-found (over a.largest.of a.largest.count a.words.now) (length a.words.now) c.loop-k.k c.loop-k.invariant c.loop-k-test.true (lt-ltb _ _ c.if-largest-k.true)))

pub loop-k-preserved : goal.loop-k-preserved
unfolding over
loop-k-preserved c =
    let a = c.args in
    more-below (over a.largest.of a.largest.count a.words.now) c.loop-k.k c.loop-k.invariant (le-ltb _ _ c.if-largest-k.false)

pub returns : goal.returns
returns c = let a = c.args in ap found_of (sym (lowest-nothing (over a.largest.of a.largest.count a.words.now) (length a.words.now) c.loop-k.k c.loop-k.invariant c.loop-k-test.false))
