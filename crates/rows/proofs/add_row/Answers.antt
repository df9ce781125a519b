-- `rows::add_row`: the words of row m below i are taken over.
use mathlib.Core.Path.{◌≡◌, refl, ap, ◌∙◌}
use Prim.Native.Nat.{◌+◌, ◌*◌}
use native.Mathlib.Omega.{arith}
use borrow.Author.Tests.{lt-ltb, le-ltb}
use lib.ListN.{length}
use Rattle.trace.specs.Bounds.{RECORDS}
use Rattle.rows.specs.Bounds.{WORDS}
use Rattle.rows.specs.AddRow.{taken_over, add_row_of}
use Rattle.rows.proofs.Or.{or_of, or_long}
use Rattle.rows.proofs.Closing.{taken_word, taken-past}
use Rattle.rows.proofs.add_row.Goals.{else-at-to, then-at-to}
use Rattle.rows.proofs.add_row.Goals as goal

pub returns-then-x-ge-RECORDS : goal.returns-then-x-ge-RECORDS
unfolding add_row_of
returns-then-x-ge-RECORDS c = rw (le-ltb _ _ c.if-x-ge-RECORDS.true) refl

pub loop-i-init : goal.loop-i-init
unfolding taken_over
loop-i-init c = (omega arith, refl, refl)

pub loop-i-preserved : goal.loop-i-preserved
loop-i-preserved c =
    let a = c.args in
    let at = a.x * WORDS + c.loop-i.i in
    let step = taken_word a.from.now a.m a.to.now a.x c.loop-i.i c.loop-i.to c.loop-i.invariant.2 in
    (elim c.if-at-to.branch [
      | then-at-to w ↦ let e : c.if-at-to.to ≡ or_of c.loop-i.to at c.word-q.result = w.to-is in
          (omega arith, ap length e ∙ or_long c.loop-i.to at _ ∙ c.loop-i.invariant.1, e ∙ step c.word-q.result c.word-q.ensures)
      | else-at-to w ↦ let e : c.if-at-to.to ≡ c.loop-i.to = w.to-is in
          (omega arith, ap length e ∙ c.loop-i.invariant.1, e ∙ taken-past a.from.now a.m a.to.now a.x c.loop-i.i c.loop-i.to c.loop-i.invariant.2 w.if-at-to.false)
    ])

pub returns : goal.returns
unfolding add_row_of
returns c =
    let a = c.args in
    let e : c.loop-i.i ≡ WORDS = omega arith in
    rw (lt-ltb a.x RECORDS (omega (arith, c.if-x-ge-RECORDS.false))) (c.loop-i.invariant.2 ∙ ap (taken_over a.from.now a.m a.to.now a.x) e)
