-- `search::sets::rest`: what is left of a row, said as a set.
use Rattle.search.proofs.Candidates.{rest-of}
use Rattle.search.proofs.sets.rest.Goals as goal

pub returns : goal.returns
returns c =
    let a = c.args in
    rest-of a.from.now (λ i. (c.type_inv.from i).fits) a.x a.out.now a.y _ c.rest.ensures
