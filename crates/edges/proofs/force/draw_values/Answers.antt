-- `edges::force::draw_values`: the records below `load` had their turn.
use mathlib.Core.Path.{◌≡◌, refl, sym, ◌∙◌}
use native.Mathlib.Omega.{arith}
use Rattle.trace.specs.Meaning.{frame_of}
use Rattle.rules.specs.RuleTests.{writer?}
use Rattle.edges.specs.inner.PairSets.{Only, Union}
use Rattle.rows.specs.inner.AddedPairs.{Added}
use Rattle.edges.specs.inner.DrawnEdges.{ValuedFor}
use Rattle.edges.proofs.DrawnEdges.{reads_at, stored, loaded-none, loaded-more, loaded-skip}
use Rattle.edges.proofs.force.draw_values.Goals.{else-reads, then-reads}
use Rattle.edges.proofs.force.draw_values.Goals as goal

pub lay_sources-requires : goal.lay_sources-requires
lay_sources-requires c =
    (c.requires.0, c.requires.1, stored c.args.t _ _ refl c.note_stores.ensures)

pub loop-load-init : goal.loop-load-init
loop-load-init c =
    let lay = c.lay_sources.ensures in
    (omega arith, loaded-none (frame_of c.args.t) c.args.t.len _ c.args.writers.now c.args.edges.now (lay.long ∙ c.requires.1), stored c.args.t _ _ refl c.note_stores.ensures, lay.source)

pub loop-load-preserved : goal.loop-load-preserved
loop-load-preserved c =
    let a = c.args in
    let f = frame_of a.t in
    let load = c.loop-load.load in
    let below = c.loop-load-test.true in
    let sources = c.lay_sources.new.sources in
    let reads = reads_at a.t load load below _ c.reads.ensures in
    (elim c.if-reads.branch [
      | then-reads w ↦ let writers : Added c.loop-load.writers (Union a.t.len (λ x. Only (writer? f x load) load x)) c.if-reads.writers = rw w.writers-is w.draw_values_for.ensures.noted in
          let edges : Added c.loop-load.edges (Union a.t.len (ValuedFor f load)) c.if-reads.edges = rw w.edges-is w.draw_values_for.ensures.drawn in (
            omega (arith, below),
            loaded-more f a.t.len load sources a.writers.now c.loop-load.writers a.edges.now c.loop-load.edges (c.loop-load.invariant.3 load below) c.loop-load.invariant.1 c.if-reads.writers c.if-reads.edges (sym reads ∙ w.if-reads.true) writers edges,
            c.loop-load.invariant.2,
            c.loop-load.invariant.3,
          )
      | else-reads w ↦ let e₁ : c.if-reads.writers ≡ c.loop-load.writers = w.writers-is in
          let e₂ : c.if-reads.edges ≡ c.loop-load.edges = w.edges-is in (
            omega (arith, below),
            rw (e₁, e₂) (loaded-skip f a.t.len load sources a.writers.now c.loop-load.writers a.edges.now c.loop-load.edges (c.loop-load.invariant.3 load below) c.loop-load.invariant.1 (sym reads ∙ w.if-reads.false)),
            c.loop-load.invariant.2,
            c.loop-load.invariant.3,
          )
    ])
