-- Rows held against each other.
--
--   word_of rows x i == word i of row x; 0 where the rows have none
--   Within a x b y  == row x of a has no number that row y of b lacks
--   Meets a x b y   == row x of a and row y of b have a number in common
use Rattle.std.proofs.Math.Bool.{So}
use Rattle.std.specs.Prelude.{cond, List, ℕ, ◌+◌, ◌*◌, ltb, get_or}
use Rattle.trace.specs.Bounds.{RECORDS}
use Rattle.rows.specs.Bounds.{WORDS}
use Rattle.rows.specs.Rows.{bit}

unfoldable pub word_of : List ℕ → ℕ → ℕ → ℕ
word_of rows x i = cond (ltb x RECORDS) (get_or rows (x * WORDS + i) 0) 0

abbrev pub Within : List ℕ → ℕ → List ℕ → ℕ → Type 0
Within a x b y = (z : ℕ) → So (bit a x z) → So (bit b y z)

abbrev pub Meets : List ℕ → ℕ → List ℕ → ℕ → Type 0
Meets a x b y = (z : ℕ) × So (bit a x z) × So (bit b y z)
