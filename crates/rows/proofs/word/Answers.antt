-- `rows::word`: a word of the rows, or 0 where they have none.
use mathlib.Core.Path.{sym}
use Rattle.rows.proofs.Against.{word_at, word-past, word-left}
use borrow.Author.Rules.{rules}
use Rattle.rows.proofs.word.Goals.{else-x-lt-RECORDS-via-then-x-lt-RECORDS+else-x-i, else-x-lt-RECORDS-via-else-x-lt-RECORDS}
use Rattle.rows.proofs.word.Goals as goal

pub returns-then-x-i : goal.returns-then-x-i
returns-then-x-i c = let a = c.args in
    sym (word_at a.rows.now a.x a.i (search rules))

pub returns : goal.returns
returns c =
    let a = c.args in
    elim c.else-x-lt-RECORDS.branch [
      | else-x-lt-RECORDS-via-then-x-lt-RECORDS+else-x-i w ↦ sym (word-past a.rows.now a.x a.i w.if-x-i.false)
      | else-x-lt-RECORDS-via-else-x-lt-RECORDS w ↦ sym (word-left a.rows.now a.x a.i w.if-x-lt-RECORDS.false)
    ]
