-- `search::refute::leave_row`: a row is added and then freed from what is placed.
use Rattle.search.proofs.Refutation.{partly-row}
use Rattle.search.proofs.refute.leave_row.Goals as goal

pub shape_of-led : goal.shape_of-led
shape_of-led c =
    let a = c.args in
    (partly-row a.before.now a.placed.now (λ i. (c.type_inv.before i).fits) a.y c.requires.0 a.led.now _ _ c.requires.1 c.add_row.ensures c.drop_row.ensures).long

pub returns : goal.returns
returns c =
    let a = c.args in
    partly-row a.before.now a.placed.now (λ i. (c.type_inv.before i).fits) a.y c.requires.0 a.led.now _ _ c.requires.1 c.add_row.ensures c.drop_row.ensures
