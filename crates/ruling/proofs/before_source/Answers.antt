-- `before_source`: x and y are two writers of one address, and none of the records passed is such a load.
use mathlib.Core.Path.{◌≡◌, sym, ap₂, ◌∙◌}
use mathlib.Core.Bool.{not, cond, ◌&&◌, ◌||◌}
use borrow.Author.Rules.{rules}
use Rattle.laws.specs.Tests.{any}
use Rattle.laws.proofs.Loops.{any-more, any-stops, any-fewer}
use Rattle.trace.specs.Meaning.{frame_of}
use Rattle.pairs.specs.RecordTests.{earlier_by, writer_by}
use Rattle.rows.specs.Rows.{bit}
use Rattle.rules.specs.RuleTests.{writer?}
use Rattle.ruling.proofs.Picked.{known-cond}
use Rattle.ruling.proofs.Parts.{any_none, before-other, before-apart, before-late, before-unread, before-found}
use Rattle.ruling.proofs.before_source.Goals.{After-earlier_by, After-writer-2, After-writer_by, else-writer_by, else-known-via-else-known, else-known-via-then-known+else-source, then-writer_by+else-known}
use Rattle.ruling.proofs.before_source.Goals as goal

-- the two tests before the loop
both : (c : After-writer-2)
    → (c.writer.result && c.writer-2.result) ≡ (writer? (frame_of c.args.t) c.args.x c.args.y
    && writer? (frame_of c.args.t) c.args.y c.args.x)
both c = (cc)

pub returns-then-not-writer : goal.returns-then-not-writer
returns-then-not-writer c =
    let a = c.args in
    sym (any_none _ _ (before-other (frame_of a.t) a.chained (bit a.chains.now) a.x a.y (sym (both (goal.at.returns-then-not-writer c).After-writer-2) ∙ c.if-not-writer.true)))

pub loop-load-init : goal.loop-load-init
unfolding any
loop-load-init c = search rules

-- x is a writer of the load's address
apart : (c : After-writer_by) → c.writer_by.result ≡ writer? (frame_of c.args.t) c.args.x c.loop-load.load
unfolding frame_of writer? writer_by
apart c =
    let a = c.args in
    let load = c.loop-load.load in
    c.writer_by.ensures ∙ ap₂ (λ p q. writer_by a.t.len p a.x q load) c.op_at-a.ensures c.op_at-b.ensures

-- what is asked of the order is what the definition asks
known : (c : After-earlier_by)
    → ((c.args.chained && c.test.result) || (not c.args.chained && c.earlier_by.result))
    ≡ cond c.args.chained (bit c.args.chains.now c.args.x c.loop-load.load) ((frame_of c.args.t).earlier c.args.x c.loop-load.load)
unfolding frame_of earlier_by
known c =
    let a = c.args in
    let load = c.loop-load.load in
    known-cond a.chained _ _
    ∙ ap₂ (cond a.chained) c.test.ensures (c.earlier_by.ensures ∙ ap₂ (λ p q. earlier_by p a.x q load) c.op_at-a.ensures c.op_at-b.ensures)

pub returns-then-source : goal.returns-then-source
returns-then-source c =
    let a = c.args in
    sym (any-stops _ _ _ c.loop-load-test.true
    (before-found (frame_of a.t) a.chained (bit a.chains.now) a.x a.y c.loop-load.load (sym (both (goal.at.returns-then-source c).After-writer-2) ∙ c.if-not-writer.false) (sym (apart (goal.at.returns-then-source c).After-writer_by) ∙ c.if-writer_by.true)
    (sym (known (goal.at.returns-then-source c).After-earlier_by) ∙ c.if-known.true) (sym c.source.ensures ∙ c.if-source.true)))

pub loop-load-preserved : goal.loop-load-preserved
unfolding frame_of earlier_by
loop-load-preserved c =
    let a = c.args in
    elim c.if-writer_by.branch [
      | then-writer_by+else-known w ↦ elim w.else-known.branch [
        | else-known-via-then-known+else-source v ↦ any-more _ _ c.loop-load.invariant (before-unread (frame_of a.t) a.chained (bit a.chains.now) a.x a.y c.loop-load.load (sym v.source.ensures ∙ v.if-source.false))
        | else-known-via-else-known v ↦
            let k = known-cond a.chained _ _ ∙ ap₂ (cond a.chained) w.test.ensures (w.earlier_by.ensures ∙ ap₂ (λ p q. earlier_by p a.x q c.loop-load.load) c.op_at-a.ensures c.op_at-b.ensures) in
            any-more _ _ c.loop-load.invariant (before-late (frame_of a.t) a.chained (bit a.chains.now) a.x a.y c.loop-load.load (sym k ∙ v.if-known.false))
      ]
      | else-writer_by w ↦ any-more _ _ c.loop-load.invariant (before-apart (frame_of a.t) a.chained (bit a.chains.now) a.x a.y c.loop-load.load (sym (apart (goal.at.loop-load-preserved c).After-writer_by) ∙ w.if-writer_by.false))
    ]

pub returns : goal.returns
returns c = sym (any-fewer _ _ _ c.loop-load-test.false c.loop-load.invariant)
