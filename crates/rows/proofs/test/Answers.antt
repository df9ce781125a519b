-- `rows::test`: a pair that has no place in the rows is in no relation.
use mathlib.Core.Path.{sym}
use Rattle.rows.proofs.Rows.{bit-left, bit-right, bit_past}
use Rattle.rows.proofs.test.Goals.{else-x-lt-RECORDS-via-then-x-lt-RECORDS+then-y-lt-RECORDS+else-x-y, else-x-lt-RECORDS-via-then-x-lt-RECORDS+else-y-lt-RECORDS, else-x-lt-RECORDS-via-else-x-lt-RECORDS}
use Rattle.rows.proofs.test.Goals as goal

pub returns : goal.returns
returns c =
    let a = c.args in
    elim c.else-x-lt-RECORDS.branch [
      | else-x-lt-RECORDS-via-then-x-lt-RECORDS+then-y-lt-RECORDS+else-x-y w ↦ sym (bit_past a.rows.now a.x a.y w.if-x-y.false)
      | else-x-lt-RECORDS-via-then-x-lt-RECORDS+else-y-lt-RECORDS w ↦ sym (bit-right a.rows.now a.x a.y w.if-y-lt-RECORDS.false)
      | else-x-lt-RECORDS-via-else-x-lt-RECORDS w ↦ sym (bit-left a.rows.now a.x a.y w.if-x-lt-RECORDS.false)
    ]
