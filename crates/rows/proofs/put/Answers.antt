-- `rows::put`: a pair that has a place in the rows is marked; any other changes nothing.
use mathlib.Core.Path.{sym, ◌∙◌}
use borrow.Author.Rules.{rules}
use Rattle.rows.proofs.Pair.{put_in, put-left, put_right, put-past}
use Rattle.rows.proofs.put.Goals.{else-x-lt-RECORDS-via-then-x-lt-RECORDS+then-y-lt-RECORDS+else-x-y, else-x-lt-RECORDS-via-then-x-lt-RECORDS+else-y-lt-RECORDS, else-x-lt-RECORDS-via-else-x-lt-RECORDS}
use Rattle.rows.proofs.put.Goals as goal

pub returns-then-x-y : goal.returns-then-x-y
returns-then-x-y c =
    let a = c.args in
    c.mark.ensures ∙ sym (put_in a.rows.now a.x a.y (search rules) (search rules))

pub returns-else-x-lt-RECORDS : goal.returns-else-x-lt-RECORDS
returns-else-x-lt-RECORDS c =
    let a = c.args in
    elim c.else-x-lt-RECORDS.branch [
      | else-x-lt-RECORDS-via-then-x-lt-RECORDS+then-y-lt-RECORDS+else-x-y w ↦ sym (put-past a.rows.now a.x a.y w.if-x-y.false)
      | else-x-lt-RECORDS-via-then-x-lt-RECORDS+else-y-lt-RECORDS w ↦ sym (put_right a.rows.now a.x a.y w.if-y-lt-RECORDS.false)
      | else-x-lt-RECORDS-via-else-x-lt-RECORDS w ↦ sym (put-left a.rows.now a.x a.y w.if-x-lt-RECORDS.false)
    ]
