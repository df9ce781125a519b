-- `counting::walk::serve`: one row after the other.
use mathlib.Core.Path.{◌≡◌, sym, ap, ◌∙◌, subst}
use mathlib.Core.List.{List}
use Prim.Native.Nat.{ℕ}
use Rattle.rows.specs.AddRow.{add_row_of}
use Rattle.rows.specs.DropRow.{drop_row_of}
use Rattle.rows.proofs.Whole.{copy-same}
use Rattle.counting.specs.inner.NextTests.{Fed}
use Rattle.counting.proofs.Feeding.{fed-of}
use Rattle.counting.proofs.walk.serve.Goals.{After-drop_row-2}
use Rattle.counting.proofs.walk.serve.Goals as goal

-- the set after the calls
served-by : (c : After-drop_row-2) → c.drop_row-2.new.to ≡ (let a = c.args in drop_row_of a.placed.now 0 (add_row_of a.fed.now a.y (drop_row_of a.rivals.now a.y a.served.now 0) 0) 0)
served-by c =
    let a = c.args in
    let e = c.copy.ensures ∙ copy-same a.served.now a.next.now (c.requires.0 ∙ sym c.requires.1) in
    let d = c.drop_row.ensures ∙ ap (λ (l : List ℕ). drop_row_of a.rivals.now a.y l 0) e in
    let f = c.add_row.ensures ∙ ap (λ (l : List ℕ). add_row_of a.fed.now a.y l 0) d in
    c.drop_row-2.ensures ∙ ap (λ (l : List ℕ). drop_row_of a.placed.now 0 l 0) f

fed : (c : After-drop_row-2) → let a = c.args in Fed a.fed.now a.rivals.now a.placed.now a.served.now a.y c.drop_row-2.new.to
fed c =
    let a = c.args in
    subst (Fed a.fed.now a.rivals.now a.placed.now a.served.now a.y) (sym (served-by c))
    (fed-of a.fed.now a.rivals.now a.placed.now a.served.now a.y (λ i. (c.type_inv.fed i).fits) c.requires.0)

pub returns : goal.returns
returns c = fed (goal.at.returns c).After-drop_row-2
