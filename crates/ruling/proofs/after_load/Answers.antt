-- `after_load`: y is another writer of what x reads, and none of the records passed is such a source.
use mathlib.Core.Path.{sym, ◌∙◌}
use borrow.Author.Rules.{rules}
use Rattle.laws.specs.Tests.{any}
use Rattle.laws.proofs.Loops.{any-more, any-stops}
use Rattle.trace.specs.Meaning.{frame_of}
use Rattle.rows.specs.Rows.{bit}
use Rattle.ruling.proofs.Parts.{any_none, after-other, after-apart, after-unread, after-found}
use Rattle.ruling.proofs.after_load.Goals.{else-y-from-via-else-y-from, else-y-from-via-then-y-from+else-source}
use Rattle.ruling.proofs.after_load.Goals as goal

pub returns-then-not-writer : goal.returns-then-not-writer
returns-then-not-writer c =
    let a = c.args in
    sym (any_none _ _ (after-other (frame_of a.t) (bit a.chains.now) a.x a.y (sym c.writer.ensures ∙ c.if-not-writer.true)))

pub loop-from-init : goal.loop-from-init
unfolding any
loop-from-init c = search rules

pub returns-then-source : goal.returns-then-source
returns-then-source c =
    let a = c.args in
    sym (any-stops _ _ _ c.loop-from-test.true
    (after-found (frame_of a.t) (bit a.chains.now) a.x a.y c.loop-from.from (sym c.writer.ensures ∙ c.if-not-writer.false)
    (rw c.test.ensures at c.if-y-from.true) (sym c.source.ensures ∙ c.if-source.true)))

pub loop-from-preserved : goal.loop-from-preserved
loop-from-preserved c =
    let a = c.args in
    any-more _ _ c.loop-from.invariant
    ((elim c.else-y-from.branch [ else-y-from-via-then-y-from+else-source w ↦ after-unread (frame_of a.t) (bit a.chains.now) a.x a.y c.loop-from.from (sym w.source.ensures ∙ w.if-source.false) | else-y-from-via-else-y-from w ↦ after-apart (frame_of a.t) (bit a.chains.now) a.x a.y c.loop-from.from (rw c.test.ensures at w.if-y-from.false) ]))
