-- `pairs::source_of`: no record passed is a source.
use mathlib.Core.Path.{sym, ap, ◌∙◌}
use native.Mathlib.Omega.{arith}
use borrow.Author.Count.{below_more}
use borrow.Author.Tests.{not-true}
use Rattle.trace.specs.Op.{address, read, reads}
use Rattle.trace.specs.Trace.{first}
use Rattle.trace.specs.Meaning.{frame_of}
use Rattle.pairs.proofs.SourceOf.{source-of-found, source-of-none, source-of-idle}
use Rattle.pairs.proofs.ReadsFrom.{source-other, source-of-first, source-at}
use borrow.Author.Rules.{rules}
use Rattle.pairs.proofs.source_of.Goals.{else-written-value-via-else-written-value, else-written-value-via-then-written-value+else-i-n}
use Rattle.pairs.proofs.source_of.Goals as goal

pub returns-then-not-reads : goal.returns-then-not-reads
returns-then-not-reads c =
    let a = c.args in
    sym (source-of-idle a.t a.load (sym (c.reads.ensures ∙ ap reads c.op_at-b.ensures) ∙ not-true _ c.if-not-reads.true-raw))

pub returns-then-value-begins : goal.returns-then-value-begins
returns-then-value-begins c =
    let a = c.args in
    sym (source-of-first a.t a.load _ (c.read-value.ensures ∙ ap read c.op_at-b.ensures) _ (c.first-begins.ensures ∙ ap (first a.t) (c.address.ensures ∙ ap address c.op_at-b.ensures)) c.if-value-begins.true)

pub loop-i-init : goal.loop-i-init
loop-i-init c = (omega arith, λ k h. absurd (omega arith))

pub returns-then-i-n : goal.returns-then-i-n
returns-then-i-n c =
    let a = c.args in
    let here = source-at a.t c.loop-i.i a.load _ _ _ c.op_at-b.ensures (c.first-begins.ensures ∙ ap (first a.t) (c.address.ensures ∙ ap address c.op_at-b.ensures)) c.reads_from.ensures in
    sym (source-of-found (frame_of a.t) a.load c.loop-i.i (search rules) (sym here ∙ c.if-i-n.true) c.loop-i.invariant.1)

pub loop-i-preserved : goal.loop-i-preserved
loop-i-preserved c =
    let a = c.args in (
      omega arith,
      below_more _ c.loop-i.i c.loop-i.invariant.1
          ((elim c.else-written-value.branch [
            | else-written-value-via-then-written-value+else-i-n w ↦ sym (source-at a.t c.loop-i.i a.load _ _ _ c.op_at-b.ensures (c.first-begins.ensures ∙ ap (first a.t) (c.address.ensures ∙ ap address c.op_at-b.ensures)) w.reads_from.ensures)
                ∙ w.if-i-n.false
            | else-written-value-via-else-written-value w ↦ source-other a.t a.load _ (c.read-value.ensures ∙ ap read c.op_at-b.ensures) c.loop-i.i _ c.written.ensures w.if-written-value.false
          ])),
    )

pub returns : goal.returns
returns c =
    let a = c.args in
    sym (source-of-none (frame_of a.t) a.load (λ k h. c.loop-i.invariant.1 k (omega arith)))
