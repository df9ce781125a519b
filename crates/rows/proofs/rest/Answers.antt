-- `rows::rest`: a row is taken, and what the other has is dropped.
use mathlib.Core.Path.{◌∙◌, ap}
use Rattle.rows.specs.Rest.{rest_of}
use Rattle.rows.specs.DropRow.{drop_row_of}
use Rattle.rows.proofs.rest.Goals as goal

pub returns : goal.returns
unfolding rest_of
returns c =
    let a = c.args in
    c.drop_row.ensures ∙ ap (λ r. drop_row_of a.out.now a.y r 0) c.add_row.ensures
