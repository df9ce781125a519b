-- `search::sets::join`: the set is copied, and the number put.
use mathlib.Core.Path.{sym, ◌∙◌}
use Rattle.rows.proofs.Sets.{put-more}
use Rattle.rows.proofs.Whole.{copy-same, empty-long}
use Rattle.rows.specs.Bounds.{WORDS}
use Rattle.rows.specs.Empty.{empty_of}
use Rattle.search.proofs.sets.join.Goals as goal

-- src/sets/mod.rt:21:1
pub returns : goal.returns
returns c = let e = c.copy.ensures ∙ copy-same c.args.set.now (empty_of WORDS) (c.requires.1 ∙ sym (empty-long WORDS)) in
    rw (c.put.ensures, e) (put-more c.args.set.now c.args.y c.requires.1 c.requires.0)
