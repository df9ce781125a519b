-- `trail::add_row`: what `rows::add_row` does to rows of the full length.
use mathlib.Core.Path.{◌≡◌, ap, ◌∙◌}
use native.Mathlib.Omega.{arith}
use lib.ListN.{length}
use Rattle.rows.specs.inner.AddedPairs as rows
use Rattle.rows.specs.AddRow.{add_row_of}
use Rattle.rows.specs.Rows.{Edges}
use Rattle.rows.proofs.Closing.{row-added}
use Rattle.circle.proofs.trail.add_row.Goals.{After-add_row}
use Rattle.circle.proofs.trail.add_row.Goals as goal

-- what the rows are then
done : (c : After-add_row)
    → let a = c.args in rows.Added a.next.now (λ i j. (i ≡ a.x) × Edges a.walks.now a.m j) (add_row_of a.walks.now a.m a.next.now a.x)
done c =
    let a = c.args in
    row-added a.walks.now (λ i. (c.type_inv.walks i).fits) a.m a.next.now a.x c.requires.0 (omega (arith, c.requires.0, c.requires.1))

pub returns : goal.returns
returns c = let e = c.add_row.ensures in
    record { long = ap length e ∙ (done (goal.at.returns c).After-add_row).long; pairs = λ i j. rw e ((done (goal.at.returns c).After-add_row).pairs i j) }
