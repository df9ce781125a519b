-- `search::first::sourced`: none of the records passed lacks its source.
use mathlib.Core.Path.{sym, ◌∙◌, subst}
use native.Mathlib.Omega.{arith}
use lib.ListN.{get_or}
use Rattle.laws.specs.Lowest.{Lowest}
use Rattle.laws.proofs.Tests.{yes_iff, no_iff}
use Rattle.laws.proofs.LowestLoops.{none_below, more-below}
use Rattle.trace.specs.Meaning.{frame_of}
use Rattle.trace.proofs.Good.{good}
use Rattle.rules.specs.Missing.{Missing}
use Rattle.rules.proofs.Missing.{missing-iff}
use Rattle.pairs.specs.MissingOf.{record?}
use Rattle.pairs.specs.Found.{Found}
use Rattle.pairs.proofs.ValidOrders.{well-fits}
use Rattle.pairs.proofs.MissingOf.{found_none, missing-lowest}
use Rattle.search.proofs.TablesLaid.{lacks-read}
use Rattle.search.proofs.first.sourced.Goals as goal

pub loop-load-init : goal.loop-load-init
loop-load-init c = none_below _

pub offset_bounds-sources-load : goal.offset_bounds-sources-load
offset_bounds-sources-load c = omega (arith, well-fits c.args.t c.requires.0, c.loop-load-test.true)

pub bounds-sources-load : goal.bounds-sources-load
bounds-sources-load c = omega (arith, c.requires.1.long, well-fits c.args.t c.requires.0, c.loop-load-test.true)

pub returns-then-later-sources : goal.returns-then-later-sources
returns-then-later-sources c = let t = c.args.t in
    let k = c.loop-load.load in
    let lack = lacks-read t c.requires.0 k c.loop-load-test.true c.reads.result c.read.result c.first.result (get_or c.args.sources.now k 0) (cc) (cc) (cc) (c.requires.1.source k c.loop-load-test.true) in
    no_iff (λ m. m k ((missing-iff (frame_of t) (good t c.requires.0) k).0 (sym lack ∙ c.if-later-sources.true)))

pub loop-load-preserved : goal.loop-load-preserved
loop-load-preserved c = let t = c.args.t in
    let k = c.loop-load.load in
    let lack = lacks-read t c.requires.0 k c.loop-load-test.true c.reads.result c.read.result c.first.result (get_or c.args.sources.now k 0) (cc) (cc) (cc) (c.requires.1.source k c.loop-load-test.true) in
    more-below _ k c.loop-load.invariant (sym lack ∙ c.if-later-sources.false)

pub returns : goal.returns
returns c = let t = c.args.t in
    yes_iff (subst (λ (a : Found). Lowest (Missing (frame_of t)) (record? a)) (sym (found_none t c.requires.0 c.loop-load.load c.loop-load.invariant c.loop-load-test.false)) (missing-lowest t c.requires.0))
