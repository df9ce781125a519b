-- The frame's tests, told the records that they ask about.
--
--   earlier_by a x b y  == record a, of number x, is before record b, of number y, in program order
--   writer_by n a x b y == record a, of number x and one of n, writes the address of record b, of number y, and is another
use Rattle.std.specs.Prelude.{Bool, not, ◌&&◌, ℕ, eqb, ltb}
use Rattle.trace.specs.Op.{thread, address, writes}
use Rattle.trace.specs.declared.Op.{Op}

unfoldable pub earlier_by : Op → ℕ → Op → ℕ → Bool
earlier_by a x b y = ltb x y && eqb (thread a) (thread b)

unfoldable pub writer_by : ℕ → Op → ℕ → Op → ℕ → Bool
writer_by n a x b y = ltb x n && writes a && eqb (address a) (address b) && not (eqb x y)
