-- `trace::form::used_follow` meets its contract. The invariant: each record passed may stand where it does, and what it wrote is marked. Assumes
-- nothing.
use mathlib.Core.Path.{sym, ◌∙◌}
use mathlib.Core.Bool.{So}
use native.Mathlib.Omega.{arith}
use borrow.Author.Tests.{not-true, not-false}
use Rattle.laws.proofs.Loops.{all_more, all-stops}
use Rattle.laws.proofs.Tests.{so-all}
use Rattle.trace.specs.Trace.{at}
use Rattle.trace.specs.WellFormed.{bounded, follows}
use Rattle.trace.proofs.WellFormed.{follows-iff, bounded-iff}
use Rattle.trace.proofs.Marks.{marks-none, marks-more}
use Rattle.trace.proofs.form.used_follow.Goals.{Else-not-follows_marks}
use Rattle.trace.proofs.form.used_follow.Goals as goal

pub loop-i-init : goal.loop-i-init
loop-i-init c = ((so-all 0 _).1 (λ i h. absurd (omega arith)), marks-none c.args.t)

pub returns-then-not-follows_marks : goal.returns-then-not-follows_marks
returns-then-not-follows_marks c = sym (all-stops _ _ _ c.loop-i-test.true (sym c.follows_marks.ensures ∙ not-true _ c.if-not-follows_marks.true-raw))

-- the record that passed the test may stand where it does, so that it keeps its bounds
may : (c : Else-not-follows_marks) → So (follows c.args.t c.loop-i.i (at c.args.t c.loop-i.i))
may c = sym c.follows_marks.ensures ∙ not-false _ c.if-not-follows_marks.false-raw

keeps : (c : Else-not-follows_marks) → So (bounded (at c.args.t c.loop-i.i))
keeps c = (bounded-iff _).1 ((follows-iff _ _ _).0 (may c)).keeps

pub note-requires : goal.note-requires
note-requires c = keeps (goal.at.note-requires c).Else-not-follows_marks

pub loop-i-preserved : goal.loop-i-preserved
loop-i-preserved c =
    let t = c.args.t in
    let i = c.loop-i.i in (
      all_more _ i c.loop-i.invariant.0 (may (goal.at.loop-i-preserved c).Else-not-follows_marks),
      rw c.note.ensures (marks-more t i c.loop-i.marks c.loop-i.invariant.1 (keeps (goal.at.loop-i-preserved c).Else-not-follows_marks)),
    )
