-- A row that gives up what a row of another relation has.
--
--   without p q           == the word p with no bit of q
--   given_up from m to x n == row x of `to` without what the first n words of row m of `from` have
--   drop_row_of from m to x == without all of it; a number past the records has no row
use Rattle.std.specs.Prelude.{cond, List, ℕ, zero, suc, ◌+◌, ◌*◌, ltb, get_or, set}
use Rattle.std.specs.Int.Bits.{bit_or, bit_xor}
use Rattle.trace.specs.Bounds.{RECORDS}
use Rattle.rows.specs.Bounds.{WORDS}
use Rattle.rows.specs.Within.{word_of}

abbrev pub without : ℕ → ℕ → ℕ
without p q = bit_xor (bit_or p q) q

unfoldable pub given_up : List ℕ → ℕ → List ℕ → ℕ → ℕ → List ℕ
given_up from m to x zero = to
given_up from m to x (suc i) = let t = given_up from m to x i in set t (x * WORDS + i) (without (get_or t (x * WORDS + i) 0) (word_of from m i))

unfoldable pub drop_row_of : List ℕ → ℕ → List ℕ → ℕ → List ℕ
drop_row_of from m to x = cond (ltb x RECORDS) (given_up from m to x WORDS) to
