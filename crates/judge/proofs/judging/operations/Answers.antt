-- `judge::judging::operations`: the operations among the records passed are counted.
use mathlib.Core.Path.{◌≡◌, sym, ◌∙◌}
use mathlib.Core.Bool.{true, false}
use native.Mathlib.Omega.{arith}
use Rattle.laws.specs.Sums.{sum}
use Rattle.trace.specs.Meaning.{frame_of}
use Rattle.rules.specs.Ready.{operations}
use Rattle.judge.proofs.Walked.{operations-more}
use Rattle.judge.proofs.judging.operations.Goals.{else-operation, then-operation}
use Rattle.judge.proofs.judging.operations.Goals as goal

pub loop-x-init : goal.loop-x-init
unfolding sum
loop-x-init c = (omega arith, omega arith, cc)

pub loop-x-preserved : goal.loop-x-preserved
loop-x-preserved c =
    let l = c.loop-x in
    let t = c.args.t in
    let more = operations-more t l.x in
    let same = c.operation.ensures in
    (elim c.if-operation.branch [ then-operation w ↦ (omega arith, omega (arith, w.total-is), omega (arith, w.total-is, l.invariant.2, more true (sym same ∙ w.if-operation.true))) | else-operation w ↦ (omega arith, omega (arith, w.total-is), omega (arith, w.total-is, l.invariant.2, more false (sym same ∙ w.if-operation.false))) ])

pub returns : goal.returns
unfolding operations frame_of
returns c =
    let l = c.loop-x in
    let n : l.x ≡ c.args.t.len = omega arith in
    rw n at l.invariant.2
