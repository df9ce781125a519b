-- `counting::walk::join`: the set is copied, and the number put.
use mathlib.Core.Path.{sym, ◌∙◌}
use Rattle.rows.proofs.Whole.{copy-same}
use Rattle.rows.proofs.Sets.{put-more}
use Rattle.counting.proofs.walk.join.Goals as goal

pub returns : goal.returns
returns c = let e = c.copy.ensures ∙ copy-same c.args.set.now c.args.next.now (c.requires.1 ∙ sym c.requires.2) in
    rw (c.put.ensures, e) (put-more c.args.set.now c.args.y c.requires.1 c.requires.0)
