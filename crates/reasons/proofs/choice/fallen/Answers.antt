-- `choice::fallen`: the rows of the branch with one pair more are closed.
use mathlib.Core.Path.{◌≡◌, ap, ◌∙◌}
use Rattle.rows.specs.Bounds.{CELLS}
use Rattle.rows.specs.Empty.{empty_of}
use Rattle.rows.specs.Put.{put_of}
use Rattle.rows.proofs.Whole.{copy-same}
use Rattle.papers.specs.Paper.{named}
use Rattle.reasons.proofs.Closed.{supposed-more, closed_branch}
use Rattle.reasons.proofs.choice.fallen.Goals as goal

pub returns : goal.returns
returns c = λ E l s.
    let a = c.args in
    let e : c.put.new.rows ≡ put_of a.supposed.now a.x a.y =
    c.put.ensures ∙ ap (λ r. put_of r a.x a.y) (c.copy.ensures ∙ copy-same a.supposed.now (empty_of CELLS) l) in
    (closed_branch a.t c.requires.0 (put_of a.supposed.now a.x a.y) (named E a.x a.y) (supposed-more a.t c.requires.0 a.supposed.now E s a.x a.y l c.requires.2 c.requires.3) a.model c.requires.1 c.forced-closed.result (rw e at c.forced-closed.ensures)).0
