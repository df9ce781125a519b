-- `paths::way`: the first i steps are laid, and the way goes on from x.
use mathlib.Core.Path.{◌≡◌, refl, sym, ◌∙◌}
use native.Mathlib.Omega.{arith}
use lib.ListN.{length-set}
use Rattle.trace.specs.Bounds.{RECORDS}
use Rattle.rows.specs.Rows.{bit}
use Rattle.reasons.proofs.Laying.{way_step, way-stop, way-over}
use Rattle.reasons.proofs.paths.way.Goals as goal

pub loop-i-init : goal.loop-i-init
loop-i-init c = (omega arith, c.requires, refl)

pub returns-then-test : goal.returns-then-test
returns-then-test c =
    let a = c.args in
    (omega arith, way-stop (bit a.edges.now) (bit a.chains.now) a.b _ c.loop-i.out c.loop-i.i c.loop-i.x (omega arith) (sym c.test.ensures ∙ c.if-test.true) c.loop-i.invariant.2)

pub loop-i-preserved : goal.loop-i-preserved
loop-i-preserved c =
    let a = c.args in
    (omega arith, length-set c.loop-i.out c.loop-i.i c.onward-x.result ∙ c.loop-i.invariant.1, way_step (bit a.edges.now) (bit a.chains.now) a.b _ c.loop-i.out c.loop-i.i c.loop-i.x c.onward-x.result (omega arith) (omega (arith, c.loop-i.invariant.1)) (sym c.test.ensures ∙ c.if-test.false) c.onward-x.ensures.0 c.loop-i.invariant.2)

pub returns : goal.returns
returns c =
    let a = c.args in
    let n : c.loop-i.i ≡ RECORDS = omega (arith, c.loop-i.invariant.0) in
    (omega arith, rw n at (way-over (bit a.edges.now) (bit a.chains.now) a.b _ c.loop-i.out c.loop-i.i c.loop-i.x (omega arith) c.loop-i.invariant.2))
