-- `session::calls::pair_turn`: numbers 12, 13 and 14 in turn.
use mathlib.Core.Path.{◌≡◌, sym, ap₂, ◌∙◌}
use mathlib.Core.Bool.{◌&&◌}
use borrow.Author.Tests.{not-true, not-false}
use Rattle.trace.specs.Meaning.{frame_of}
use Rattle.session.proofs.Answering.{pair-unlike, pair-fence, pair_one, pair-done}
use Rattle.session.proofs.calls.pair_turn.Goals.{After-operation-2}
use Rattle.session.proofs.calls.pair_turn.Goals as goal

pub returns-then-not-intact : goal.returns-then-not-intact
returns-then-not-intact c = λ C. sym (pair-unlike C _ _ _ (sym (c.intact.ensures C) ∙ not-true _ c.if-not-intact.true-raw))

-- both tests of the numbers
tested : (c : After-operation-2) → let s = c.args in
    (c.operation.result && c.operation-2.result) ≡ ((frame_of s.s.trace).operation s.x && (frame_of s.s.trace).operation s.y)
tested c = ap₂ ◌&&◌ c.operation.ensures c.operation-2.ensures

pub returns-then-not-operation : goal.returns-then-not-operation
returns-then-not-operation c = λ C.
    sym (pair-fence C _ _ _ (sym (c.intact.ensures C) ∙ not-false _ c.if-not-intact.false-raw) (sym (tested (goal.at.returns-then-not-operation c).After-operation-2) ∙ not-true _ c.if-not-operation.true-raw))

pub returns-then-x-y : goal.returns-then-x-y
returns-then-x-y c = λ C.
    sym (pair_one C _ _ _ (sym (c.intact.ensures C) ∙ not-false _ c.if-not-intact.false-raw) (sym (tested (goal.at.returns-then-x-y c).After-operation-2) ∙ not-false _ c.if-not-operation.false-raw) c.if-x-y.true)

pub returns : goal.returns
returns c = λ C.
    sym (pair-done C _ _ _ (sym (c.intact.ensures C) ∙ not-false _ c.if-not-intact.false-raw) (sym (tested (goal.at.returns c).After-operation-2) ∙ not-false _ c.if-not-operation.false-raw) c.if-x-y.false)
