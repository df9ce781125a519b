-- How large rows of bits are. The numbers of src/lib.rt, for the definitions; no proof writes them.
--
--   WIDTH == how many bits a word has
--   WORDS == how many words a row has
--   CELLS == how many words all rows have
use Rattle.std.specs.Prelude.{ℕ, ◌*◌}
use Rattle.trace.specs.Bounds.{RECORDS}

abbrev pub WIDTH : ℕ
WIDTH = 64

abbrev pub WORDS : ℕ
WORDS = 4

abbrev pub CELLS : ℕ
CELLS = RECORDS * WORDS
