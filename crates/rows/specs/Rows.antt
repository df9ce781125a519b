-- The relation that rows of bits hold. A promise about rows speaks of `bit` and never of words.
--
--   place x y  == which word has the bit of the pair x, y
--   bit rows   == the relation as a test: nothing outside the records, nothing past the end of the rows
--   Edges rows == the same as a relation
--   Words rows == every word is one: it is below 2 to the width
use Rattle.std.proofs.Math.Bool.{So}
use Rattle.std.specs.Prelude.{◌&&◌, List, ℕ, ◌+◌, ◌*◌, ◌/◌, ◌%◌, ◌^◌, ◌<◌, ltb, get_or}
use Rattle.laws.specs.Bits.{bit_of}
use Rattle.laws.specs.Relation.{Rel, Table}
use Rattle.trace.specs.Bounds.{RECORDS}
use Rattle.rows.specs.Bounds.{WIDTH, WORDS}

abbrev pub place : ℕ → ℕ → ℕ
place x y = x * WORDS + y / WIDTH

unfoldable pub bit : List ℕ → Table
bit rows x y = ltb x RECORDS && ltb y RECORDS && bit_of (get_or rows (place x y) 0) (y % WIDTH)

abbrev pub Edges : List ℕ → Rel
Edges rows x y = So (bit rows x y)

abbrev pub Words : List ℕ → Type 0
Words rows = (i : ℕ) → get_or rows i 0 < 2 ^ WIDTH
