-- `edges::kept::kept_rows`: the pairs are drawn where there are rows for them and the model exists.
use mathlib.Core.Path.{sym, ◌∙◌}
use mathlib.Core.Bool.{false≢true}
use native.Mathlib.Omega.{arith}
use Rattle.edges.proofs.KeptRows.{kept-drawn, kept-undrawn}
use Rattle.edges.proofs.kept.kept_rows.Goals.{else-t-le-RECORDS-via-then-t-le-RECORDS+else-modelled, else-t-le-RECORDS-via-else-t-le-RECORDS}
use Rattle.edges.proofs.kept.kept_rows.Goals as goal

pub returns-then-modelled : goal.returns-then-modelled
returns-then-modelled c =
    kept-drawn c.args.t c.args.model _ (omega arith) c.draw_rows.ensures

pub returns-else-t-le-RECORDS : goal.returns-else-t-le-RECORDS
returns-else-t-le-RECORDS c =
    kept-undrawn c.args.t c.args.model (λ l e. (elim c.else-t-le-RECORDS.branch [
      | else-t-le-RECORDS-via-then-t-le-RECORDS+else-modelled w ↦ false≢true (sym w.if-modelled.false ∙ w.modelled.ensures ∙ e)
      | else-t-le-RECORDS-via-else-t-le-RECORDS w ↦ omega (arith, w.if-t-le-RECORDS.false, l)
    ]))
