-- `paths::load_of`: no load below is one.
use mathlib.Core.Path.{sym, ◌∙◌}
use native.Mathlib.Omega.{arith}
use Rattle.laws.proofs.LowestLoops.{none_below, more-below}
use Rattle.trace.specs.Meaning.{frame_of}
use Rattle.rows.specs.Rows.{bit}
use Rattle.reasons.proofs.Places.{load_here, load_past}
use Rattle.reasons.proofs.Laying.{reads_on, reads-off₁, reads-off₂}
use Rattle.reasons.proofs.paths.load_of.Goals.{else-test, then-test+else-source_of-y}
use Rattle.reasons.proofs.paths.load_of.Goals as goal

pub loop-load-init : goal.loop-load-init
loop-load-init c = (omega arith, none_below _)

pub returns-then-source_of-y : goal.returns-then-source_of-y
returns-then-source_of-y c =
    let a = c.args in
    (load_here (frame_of a.t) (bit a.chains.now) a.x a.y c.loop-load.load c.loop-load.invariant.1 (omega arith) (reads_on (frame_of a.t) (bit a.chains.now) a.x a.y c.loop-load.load _ (sym c.test.ensures ∙ c.if-test.true) c.source_of.ensures c.if-source_of-y.true), omega arith)

pub loop-load-preserved : goal.loop-load-preserved
loop-load-preserved c =
    let a = c.args in
    (omega arith, more-below _ c.loop-load.load c.loop-load.invariant.1 ((elim c.if-test.branch [ then-test+else-source_of-y w ↦ reads-off₂ (frame_of a.t) (bit a.chains.now) a.x a.y c.loop-load.load _ w.source_of.ensures w.if-source_of-y.false | else-test w ↦ reads-off₁ (frame_of a.t) (bit a.chains.now) a.x a.y c.loop-load.load 0 (sym c.test.ensures ∙ w.if-test.false) ])))

pub returns : goal.returns
returns c = (load_past _ _ _ _ c.loop-load.load c.loop-load.invariant.1 (omega arith), omega arith)
