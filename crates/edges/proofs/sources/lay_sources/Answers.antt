-- `edges::sources::lay_sources`: the sources of the records below `load` are laid.
use mathlib.Core.Bool.{Bool, not, ◌&&◌}
use mathlib.Core.Path.{sym, ap, ◌∙◌}
use Prim.Native.Nat.{ℕ}
use native.Mathlib.Omega.{arith}
use lib.Dec.{eqb}
use lib.ListN.{get_or}
use Rattle.trace.specs.Meaning.{frame_of}
use Rattle.trace.specs.Op.{reads}
use Rattle.trace.specs.Trace.{at, first}
use Rattle.edges.proofs.SourcesLaid.{sources-laid-more, source-laid}
use Rattle.edges.proofs.sources.lay_sources.Goals as goal

pub loop-load-preserved : goal.loop-load-preserved
unfolding first
loop-load-preserved c =
    let l = c.loop-load in
    let t = c.args.t in
    let below = c.loop-load-test.true in
    let own = c.address-addr.ensures in
    let asks = ap (λ (b : Bool). b && not (eqb c.read.result c.value_at.result)) c.reads.ensures ∙ ap (λ (y : ℕ). reads (at t l.load) && not (eqb y c.value_at.result)) (c.read.ensures ∙ sym c.read-in-loop-load.ensures) in
    let is = source-laid t c.args.stores.now _ c.requires.2 c.lay_values.ensures l.load below _ _ _ _ _ asks c.read-in-loop-load.ensures (c.value_at.ensures ∙ ap (λ (a : ℕ). get_or t.firsts a 0) own) own c.source_in.ensures in
    (omega (arith, below), sources-laid-more (frame_of t) l.load c.args.sources.now l.sources l.invariant.1 (omega (arith, below, l.invariant.1.long, c.requires.0, c.requires.1)) c.source_in.result is)
