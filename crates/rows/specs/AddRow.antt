-- A row that takes over what a row of another relation has.
--
--   taken_over from m to x n == row x of `to` with the first n words of row m of `from` taken over
--   add_row_of from m to x    == all of them; a number past the records has no row
use Rattle.std.specs.Prelude.{cond, List, ℕ, zero, suc, ◌+◌, ◌*◌, ltb, get_or, set}
use Rattle.std.specs.Int.Bits.{bit_or}
use Rattle.trace.specs.Bounds.{RECORDS}
use Rattle.rows.specs.Bounds.{WORDS}
use Rattle.rows.specs.Within.{word_of}

unfoldable pub taken_over : List ℕ → ℕ → List ℕ → ℕ → ℕ → List ℕ
taken_over from m to x zero = to
taken_over from m to x (suc i) = let t = taken_over from m to x i in set t (x * WORDS + i) (bit_or (get_or t (x * WORDS + i) 0) (word_of from m i))

unfoldable pub add_row_of : List ℕ → ℕ → List ℕ → ℕ → List ℕ
add_row_of from m to x = cond (ltb x RECORDS) (taken_over from m to x WORDS) to
