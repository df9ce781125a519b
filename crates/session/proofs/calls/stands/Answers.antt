-- `session::calls::stands`: the places passed are as they should be. That there are PAIRS of them is told by owning the array.
use borrow.Author.Rules.{rules}
use mathlib.Core.Path.{◌≡◌, sym, ◌∙◌}
use lib.ListN.{length}
use borrow.Author.Tests.{not-true, not-false}
use Rattle.laws.specs.Tests.{all}
use Rattle.laws.proofs.Loops.{all_more, all-stops, all-fewer}
use Rattle.session.specs.Bounds.{PAIRS}
use Rattle.session.proofs.Pairs.{stands-over, stands-all}
use Rattle.session.proofs.calls.stands.Goals.{Start}
use Rattle.session.proofs.calls.stands.Goals as goal

full : (c : Start) → length c.args.k.pairs ≡ PAIRS
full c = c.well_formed.1.0.1.1.0.1.0.1

pub returns-then-k-gt-PAIRS : goal.returns-then-k-gt-PAIRS
returns-then-k-gt-PAIRS c = sym (stands-over _ _ (full (goal.at.returns-then-k-gt-PAIRS c).Start) c.if-k-gt-PAIRS.true)

pub loop-i-init : goal.loop-i-init
unfolding all
loop-i-init c = search rules

pub returns-then-not-placed : goal.returns-then-not-placed
returns-then-not-placed c =
    sym (stands-all _ _ (full (goal.at.returns-then-not-placed c).Start) c.loop-i.invariant.0 ∙ all-stops _ _ _ c.loop-i-test.true (sym c.placed.ensures ∙ not-true _ c.if-not-placed.true-raw))

pub loop-i-preserved : goal.loop-i-preserved
loop-i-preserved c = let l = c.loop-i in (l.invariant.0, all_more _ _ l.invariant.1 (sym c.placed.ensures ∙ not-false _ c.if-not-placed.false-raw))

pub returns : goal.returns
returns c = sym (stands-all _ _ (full (goal.at.returns c).Start) c.loop-i.invariant.0 ∙ all-fewer _ _ _ c.loop-i-test.false c.loop-i.invariant.1)
