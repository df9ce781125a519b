-- `edges::force::draw_settled_by`: the two rules, one after the other.
use mathlib.Core.Path.{◌∙◌}
use Rattle.edges.proofs.PairSets.{adds-if}
use Rattle.edges.proofs.DrawnEdges.{settled_at}
use Rattle.edges.proofs.force.draw_settled_by.Goals as goal

pub returns : goal.returns
returns c =
    let a = c.args in
    let d₁ = adds-if _ a.x a.source c.requires.3 (λ _. (c.requires.0, c.requires.1)) c.put_if.ensures in
    let d₂ = adds-if _ a.load a.x (d₁.long ∙ c.requires.3) (λ _. (c.requires.2, c.requires.0)) c.put_if-2.ensures in
    settled_at a.chains.now a.source a.load a.x _ _ c.test.ensures c.test-2.ensures d₁ d₂
