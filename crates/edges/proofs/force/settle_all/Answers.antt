-- `edges::force::settle_all`: a pass, held against a copy.
use mathlib.Core.Path.{sym, ◌∙◌}
use Rattle.rows.specs.Bounds.{CELLS}
use Rattle.rows.specs.Empty.{empty_of}
use Rattle.rows.proofs.Whole.{copy-same}
use Rattle.edges.proofs.force.settle_all.Goals as goal

pub returns : goal.returns
returns c =
    let q = c.copy.ensures ∙ copy-same c.args.edges.now (empty_of CELLS) c.requires.2 in
    record { takes = c.settle.ensures; settled = (λ u. sym q ∙ c.equal.ensures.0 u, λ u. c.equal.ensures.1 (q ∙ u)) }
