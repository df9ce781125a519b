-- How much the search remembers. The number of src/seek/mod.rt, for the definitions; no proof writes it.
--
--   SLOTS == how many sets of operations the memory has room for
use Rattle.std.specs.Prelude.{ℕ}

abbrev pub SLOTS : ℕ
SLOTS = 4093
