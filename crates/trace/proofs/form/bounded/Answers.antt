-- `trace::form::bounded` meets its contract: each way rewrites with the tests that led there. Assumes nothing.
use mathlib.Core.Path.{◌≡◌}
use mathlib.Core.Bool.{true, false}
use lib.Dec.{ltb}
use native.Mathlib.Omega.{arith}
use borrow.Author.Tests.{lt-ltb, le-ltb}
use Rattle.trace.specs.Bounds.{THREADS, ADDRESSES, VALUES}
use Rattle.trace.specs.Op.{thread, address, read, written}
use Rattle.trace.specs.WellFormed.{bounded}
use borrow.Author.Rules.{rules}
use Rattle.trace.proofs.form.bounded.Goals as goal

pub returns-then-thread-ge-THREADS : goal.returns-then-thread-ge-THREADS
unfolding bounded
returns-then-thread-ge-THREADS c = simp (le-ltb (thread c.args.op) THREADS (omega arith))

pub returns-then-address-ge-ADDRESSES : goal.returns-then-address-ge-ADDRESSES
unfolding bounded
returns-then-address-ge-ADDRESSES c =
    let o = c.args.op in
    simp (lt-ltb (thread o) THREADS (omega arith), le-ltb (address o) ADDRESSES (omega arith))

pub returns-then-value_bounded : goal.returns-then-value_bounded
unfolding bounded
returns-then-value_bounded c =
    let o = c.args.op in
    let r : ltb (read o) VALUES ≡ true = cc in
    let w : c.value_bounded-then-value_bounded.result ≡ ltb (written o) VALUES = cc in
    simp (lt-ltb (thread o) THREADS (omega arith), lt-ltb (address o) ADDRESSES (omega arith), r) w

pub returns : goal.returns
unfolding bounded
returns c =
    let o = c.args.op in
    let r : ltb (read o) VALUES ≡ false = cc in
    simp (lt-ltb (thread o) THREADS (omega arith), lt-ltb (address o) ADDRESSES (omega arith), r)
