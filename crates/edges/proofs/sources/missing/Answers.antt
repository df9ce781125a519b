-- `edges::sources::missing`: none of the records passed lacks its source.
use mathlib.Core.Path.{◌≡◌, sym, ◌∙◌}
use mathlib.Core.Bool.{not, ◌&&◌}
use borrow.Author.Tests.{not-true, not-false}
use lib.Dec.{eqb, leb}
use lib.ListN.{get_or}
use Rattle.laws.proofs.LowestLoops.{none_below, more-below}
use Rattle.trace.specs.Bounds.{RECORDS}
use Rattle.trace.specs.Meaning.{frame_of}
use Rattle.rules.specs.Missing.{missing?}
use Rattle.pairs.proofs.MissingOf.{unformed, found_at, found_none}
use Rattle.pairs.proofs.ValidOrders.{well-fits}
use Rattle.edges.proofs.MissingSources.{lacks-told}
use Rattle.edges.proofs.sources.missing.Goals.{After-first}
use Rattle.edges.proofs.sources.missing.Goals as goal

pub returns-then-not-well_formed : goal.returns-then-not-well_formed
returns-then-not-well_formed c = unformed c.args.t (sym c.well_formed-2.ensures ∙ not-true _ c.if-not-well_formed.true-raw)

pub loop-load-init : goal.loop-load-init
loop-load-init c =
    let w = sym c.well_formed-2.ensures ∙ not-false _ c.if-not-well_formed.false-raw in
    (w, well-fits _ w, none_below _)

-- the code's test of a record is the definition's
lacks : (c : After-first) → (c.reads.result && not (eqb c.read.result c.first.result) && leb RECORDS (get_or c.sources_of-sources.result c.loop-load.load 0)) ≡ missing? (frame_of c.args.t) c.loop-load.load
lacks c =
    (cc) ∙ lacks-told c.args.t c.loop-load.invariant.0 c.sources_of-sources.result c.sources_of-sources.ensures c.loop-load.load c.loop-load-test.true

pub returns-then-later-sources : goal.returns-then-later-sources
returns-then-later-sources c =
    let l = c.loop-load in
    found_at _ l.invariant.0 l.load l.invariant.2 c.loop-load-test.true (sym (lacks (goal.at.returns-then-later-sources c).After-first) ∙ c.if-later-sources.true)

pub loop-load-preserved : goal.loop-load-preserved
loop-load-preserved c =
    let l = c.loop-load in
    (l.invariant.0, l.invariant.1, more-below _ l.load l.invariant.2 (sym (lacks (goal.at.loop-load-preserved c).After-first) ∙ c.if-later-sources.false))

pub returns : goal.returns
returns c = let l = c.loop-load in found_none _ l.invariant.0 l.load l.invariant.2 c.loop-load-test.false
