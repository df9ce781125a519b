-- `edges::force::draw_values_for`: the row of the writers is laid, then noted, and the rules are drawn one after the other.
use mathlib.Core.Path.{ap, ◌∙◌}
use Prim.Native.Nat.{◌<◌}
use native.Mathlib.Omega.{arith}
use Rattle.trace.specs.Bounds.{RECORDS}
use Rattle.trace.specs.Trace.{first}
use Rattle.trace.specs.Meaning.{frame_of}
use Rattle.edges.proofs.DrawnEdges.{address-at, early-at, others-writers, row_laid, noted, valued-all}
use Rattle.edges.proofs.force.draw_values_for.Goals as goal

pub draw_values_from-requires : goal.draw_values_from-requires
draw_values_from-requires c =
    (c.requires.below.0, c.requires.below.1, c.draw_early.ensures.long ∙ c.draw_source.ensures.long ∙ c.requires.lengths.1)

pub returns : goal.returns
returns c =
    let a = c.args in
    let f = frame_of a.t in
    let below : a.load < RECORDS = omega (arith, c.requires.below.0, c.requires.below.1) in
    let same = address-at a.t a.load a.load _ c.address-addr.ensures in
    let begins = c.first.ensures ∙ ap (first a.t) c.address-addr.ensures in
    let early = early-at a.t a.load a.load c.requires.below.0 _ _ _ c.reads.ensures c.read.ensures begins in
    let is = others-writers f a.stores.now a.load _ same c.requires.stored _ c.others_in-others.ensures.1 in
    record {
      noted = noted a.t a.load _ is (row_laid _ c.others_in-others.ensures.0 a.load below a.writers.now _ c.requires.lengths.0 c.add_row.ensures);
      drawn = valued-all a.t a.load _ is c.requires.below.1 a.source c.requires.below.2 _ early c.draw_source.ensures c.draw_early.ensures c.draw_values_from.ensures;
    }
