-- `reading::latest`: what was passed is no open split.
use mathlib.Core.Path.{◌≡◌, refl, sym, ◌∙◌}
use Prim.Native.Nat.{◌+◌, ◌-◌}
use native.Mathlib.Omega.{arith}
use Rattle.papers.proofs.Branches.{latest-zero, latest-on, latest-here}
use Rattle.papers.proofs.reading.latest.Goals as goal

-- src/reading/mod.rt:74:5
pub loop-i-init : goal.loop-i-init
loop-i-init c = (refl, omega arith)

-- src/reading/mod.rt:76:13
pub returns-then-other-i-eq1 : goal.returns-then-other-i-eq1
returns-then-other-i-eq1 c =
    let l = c.loop-i in
    let up : l.i - 1 + 1 ≡ l.i = omega (arith, c.loop-i-test.true) in
    (up ∙ sym (l.invariant.0 ∙ latest-here c.args.other.now (l.i - 1) l.i (omega (arith, c.loop-i-test.true)) c.if-other-i-eq1.true), omega (arith, up, l.invariant.1))

-- src/reading/mod.rt:74:5
pub loop-i-preserved : goal.loop-i-preserved
loop-i-preserved c =
    let l = c.loop-i in
    (l.invariant.0 ∙ latest-on c.args.other.now (l.i - 1) l.i (omega (arith, c.loop-i-test.true)) c.if-other-i-eq1.false, omega (arith, l.invariant.1))

-- src/reading/mod.rt:69:1
pub returns : goal.returns
returns c =
    let l = c.loop-i in
    (sym (l.invariant.0 ∙ latest-zero c.args.other.now l.i (omega (arith, c.loop-i-test.false))), omega arith)
