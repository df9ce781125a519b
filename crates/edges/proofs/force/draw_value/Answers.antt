-- `edges::force::draw_value`: the two rules, one after the other.
use mathlib.Core.Path.{◌∙◌}
use mathlib.Core.Bool.{not}
use lib.Dec.{eqb}
use Rattle.edges.proofs.PairSets.{adds-if, adds-or}
use Rattle.edges.proofs.DrawnEdges.{third-small}
use Rattle.edges.proofs.force.draw_value.Goals as goal

pub returns : goal.returns
returns c =
    let a = c.args in
    let d₁ = adds-if _ a.x a.source c.requires.2 (λ t. (c.requires.0, third-small (not (eqb a.x a.source)) a.source t)) c.put_if.ensures in
    let d₂ = adds-if a.early a.x a.load (d₁.long ∙ c.requires.2) (λ _. (c.requires.0, c.requires.1)) c.put_if-2.ensures in
    adds-or d₁ d₂
