-- `edges::force::draw_pairs`: what is no operation is noted, then the kept pairs and the supposed ones are drawn.
use mathlib.Core.Path.{refl}
use Rattle.rows.specs.Bounds.{CELLS}
use Rattle.edges.proofs.PairSets.{adds-as, adds_then}
use Rattle.edges.proofs.LentPairs.{apart, lent-spared, paired-both}
use Rattle.edges.proofs.force.draw_pairs.Goals as goal

pub returns : goal.returns
returns c =
    let t = c.args.t in
    let clear = apart t _ _ CELLS refl c.note_others.ensures in
    adds_then _ (adds-as _ c.draw_lent.ensures (lent-spared t c.requires.0 c.args.kept.now _ clear)) (adds-as _ c.draw_lent-2.ensures (lent-spared t c.requires.0 c.args.supposed.now _ clear)) (paired-both t c.args.kept.now c.args.supposed.now)
