-- `edges::force::waiting`: what is left of a row, three times.
use Rattle.edges.proofs.Takes.{waiting-of}
use Rattle.edges.proofs.force.waiting.Goals as goal

pub returns : goal.returns
returns c =
    let a = c.args in
    waiting-of a.rows.now (λ i. (c.type_inv.rows i).fits) a.x a.y a.writers.now (λ i. (c.type_inv.writers i).fits) a.load a.source c.requires _ _ _ _ _
    c.put.ensures c.rest-elsewhere.ensures c.rest-there.ensures c.rest-fresh.ensures c.rest.ensures
