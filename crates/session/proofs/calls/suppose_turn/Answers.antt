-- `session::calls::suppose_turn`: the pair's own numbers first, then 15.
use mathlib.Core.Path.{◌≡◌, sym, ap, ◌∙◌}
use borrow.Author.Tests.{not-true, not-false}
use Rattle.session.specs.Opening.{is_done}
use Rattle.session.specs.Closings.{Closings}
use Rattle.session.specs.Entries.{pair_turn}
use Rattle.session.proofs.Answering.{suppose-pair, suppose-full, suppose-done}
use Rattle.session.proofs.calls.suppose_turn.Goals.{After-done}
use Rattle.session.proofs.calls.suppose_turn.Goals as goal

tested : (C : Closings) (c : After-done) → let s = c.args in c.done.result ≡ is_done (pair_turn C s.s s.x s.y)
tested C c = c.done.ensures ∙ ap is_done (c.pair_turn-turn.ensures C)

pub returns-then-not-done : goal.returns-then-not-done
returns-then-not-done c = λ C. c.pair_turn-turn.ensures C ∙ sym (suppose-pair C _ _ _ (sym (tested C (goal.at.returns-then-not-done c).After-done) ∙ not-true _ c.if-not-done.true-raw))

pub returns-then-s-ge-PAIRS : goal.returns-then-s-ge-PAIRS
returns-then-s-ge-PAIRS c = λ C. sym (suppose-full C _ _ _ (sym (tested C (goal.at.returns-then-s-ge-PAIRS c).After-done) ∙ not-false _ c.if-not-done.false-raw) c.if-s-ge-PAIRS.true)

pub returns : goal.returns
returns c = λ C. sym (suppose-done C _ _ _ (sym (tested C (goal.at.returns c).After-done) ∙ not-false _ c.if-not-done.false-raw) c.if-s-ge-PAIRS.false)
