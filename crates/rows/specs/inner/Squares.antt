-- Squares of a relation: as many words as a word has bits, so that a square can be turned round where it stands.
--
--   HALVINGS               == how many bits a place in a word has
--   square_bit s i j        == bit j of word i
--   Square R s             == s has a word for each bit, and bit j of word i where R i j
--   low k j                == bit k of the number j is 0
--   Mask k d m             == d is 2 to the k, and the word m has the places whose bit k is 0
--   swapped k i j          == i with bit k of j in the place of its own
--   crossed k s i j        == the cell from which i, j comes where i and j exchange their bits k
--   part rows n p q        == the square in row p and column q of the squares, its rows below n only
--   InSquare p q y x       == the pair y, x lies in the square in row q and column p
--   LaysSquare s n p q y x == the square s, laid there with its rows below n, has the pair y, x
--   Turns rows n y x       == both are below n, and the rows have the pair x, y
use Rattle.std.specs.Prelude.{◌≡◌, Bool, ◌&&◌, List, ℕ, ◌+◌, ◌-◌, ◌*◌, ◌/◌, ◌%◌, ◌^◌, ◌<◌, eqb, ltb, length, get_or}
use Rattle.std.proofs.Math.Bool.{So}
use Rattle.laws.specs.Bits.{bit_of}
use Rattle.laws.specs.Relation.{Rel, Table}
use Rattle.rows.specs.Bounds.{WIDTH}
use Rattle.rows.specs.Rows.{bit, Edges}

abbrev pub HALVINGS : ℕ
HALVINGS = 6

abbrev pub square_bit : List ℕ → Table
square_bit s i j = bit_of (get_or s i 0) j

pub record Square (R : Table) (s : List ℕ) : Type 0 where
  pub long : length s ≡ WIDTH
  pub cells : (i j : ℕ) → i < WIDTH → j < WIDTH → square_bit s i j ≡ R i j

abbrev pub low : ℕ → ℕ → Bool
low k j = eqb (j / 2 ^ k % 2) 0

pub record Mask (k d m : ℕ) : Type 0 where
  pub few : k < HALVINGS
  pub power : d ≡ 2 ^ k
  pub places : (j : ℕ) → j < WIDTH → bit_of m j ≡ low k j

unfoldable pub swapped : ℕ → ℕ → ℕ → ℕ
swapped k i j = i - i / 2 ^ k % 2 * 2 ^ k + j / 2 ^ k % 2 * 2 ^ k

abbrev pub crossed : ℕ → List ℕ → Table
crossed k s i j = square_bit s (swapped k i j) (swapped k j i)

abbrev pub part : List ℕ → ℕ → ℕ → ℕ → Table
part rows n p q i j = ltb (p * WIDTH + i) n && bit rows (p * WIDTH + i) (q * WIDTH + j)

abbrev pub InSquare : ℕ → ℕ → Rel
InSquare p q y x = (y / WIDTH ≡ q) × (x / WIDTH ≡ p)

abbrev pub LaysSquare : List ℕ → ℕ → ℕ → ℕ → Rel
LaysSquare s n p q y x = InSquare p q y x × (y < n) × So (square_bit s (y % WIDTH) (x % WIDTH))

abbrev pub Turns : List ℕ → ℕ → Rel
Turns rows n y x = (y < n) × (x < n) × Edges rows x y
