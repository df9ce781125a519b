-- Rows with one pair more.
--
--   mark_of rows x y  == the word of the pair x, y with the pair's bit set
--   put_of rows x y   == the rows with the pair x, y, if both are numbers of records and the rows reach that far
--   put_if rows b x y == the same where the test b passes; otherwise the rows
use Rattle.std.specs.Prelude.{Bool, cond, ◌&&◌, List, ℕ, ◌%◌, ◌^◌, ltb, get_or, set}
use Rattle.std.specs.Int.Bits.{bit_or}
use Rattle.trace.specs.Bounds.{RECORDS}
use Rattle.rows.specs.Bounds.{WIDTH}
use Rattle.rows.specs.Rows.{place}

unfoldable pub mark_of : List ℕ → ℕ → ℕ → List ℕ
mark_of rows x y = set rows (place x y) (bit_or (get_or rows (place x y) 0) (2 ^ (y % WIDTH)))

unfoldable pub put_of : List ℕ → ℕ → ℕ → List ℕ
put_of rows x y = cond (ltb x RECORDS && ltb y RECORDS) (mark_of rows x y) rows

unfoldable pub put_if : List ℕ → Bool → ℕ → ℕ → List ℕ
put_if rows b x y = cond b (put_of rows x y) rows
