-- How the writer looks for the pair to split on.
--
--   BOTH                     == the rank of a pair of which both sides fall: no rank is higher
--   rank_of f K E x y        == how much a split on x and y is worth in the branch E: 0 where it is not open, otherwise 1, and 1 more for each side that falls
--   ReadRow f read           == the set read has who is read from
--   SupposedIn t rows E      == the pairs that the rows suppose are those that E names
--   NamedRows E rows         == the rows have the pairs of records that E names
--   HeldRows f K E held      == the rows held have what is held in the branch E
--   Known t m E rows read held == the rows of a branch, its set and what is held in it
--   Higher best rank r       == r is the higher of the two
--   PairBefore a b x y       == the pair a, b comes before the pair x, y in dictionary order
--   Best n R x y c           == of the pairs a, b with a < b < n that come before x, y, c is the first of the highest rank
--   NextIn f K E r           == r is what comes next in the branch E
--   ChosenPair o c           == c is the pair o; its rank is 0 where there is none
use Rattle.std.specs.Prelude.{◌≡◌, ◌⊎◌, ◌↔◌, Bool, false, cond, List, ℕ, ◌+◌, ◌<◌, ◌≤◌, length}
use Rattle.std.proofs.Math.Bool.{So}
use Rattle.std.proofs.Math.Option.{Option, none, some}
use Rattle.laws.specs.Relation.{Table}
use Rattle.trace.specs.Bounds.{RECORDS}
use Rattle.trace.specs.Meaning.{frame_of}
use Rattle.trace.specs.declared.Trace.{Trace}
use Rattle.rules.specs.Frame.{Frame}
use Rattle.rows.specs.Bounds.{CELLS}
use Rattle.rows.specs.Rows.{bit}
use Rattle.pairs.specs.Kept.{kept_of}
use Rattle.edges.specs.Supposed.{supposed_of}
use Rattle.papers.specs.Paper.{Claim, named}
use Rattle.reasons.specs.Telling.{inside}
use Rattle.reasons.specs.Writing.{fallen, held_in, read_from, open?, choose}
use Rattle.reasons.specs.declared.choice.Choice.{Choice}
use Rattle.reasons.specs.declared.choice.Next.{Next}
use Rattle.reasons.specs.declared.choice.Next.TheVariants.{Circle, Split}

abbrev pub BOTH : ℕ
BOTH = 3

abbrev pub one_more : Bool → ℕ
one_more b = cond b 1 0

unfoldable pub rank_of : Frame → Table → List Claim → ℕ → ℕ → ℕ
rank_of f K E x y = cond (open? f K E x y) (1 + (one_more (fallen f K (named E x y)) + one_more (fallen f K (named E y x)))) 0

abbrev pub ReadRow : Frame → List ℕ → Type 0
ReadRow f read = (x : ℕ) → x < RECORDS → bit read 0 x ≡ read_from f x

abbrev pub SupposedIn : Trace → List ℕ → List Claim → Type 0
SupposedIn t rows E = supposed_of t rows ≡ inside E

abbrev pub NamedRows : List Claim → List ℕ → Type 0
NamedRows E rows = (length rows ≡ CELLS) × ((x y : ℕ) → So (bit rows x y) ↔ ((x < RECORDS) × (y < RECORDS) × So (inside E x y)))

abbrev pub HeldRows : Frame → Table → List Claim → List ℕ → Type 0
HeldRows f K E held = (x y : ℕ) → bit held x y ≡ held_in f K E x y

pub record Known (t : Trace) (m : ℕ) (E : List Claim) (rows read held : List ℕ) : Type 0 where
  pub long : length rows ≡ CELLS
  pub supposed : SupposedIn t rows E
  pub read-from : ReadRow (frame_of t) read
  pub held_rows : HeldRows (frame_of t) (kept_of m t) E held

pub record Higher (best rank r : ℕ) : Type 0 where
  pub keeps : best ≤ r
  pub reaches : rank ≤ r
  pub one : (r ≡ best) ⊎ (r ≡ rank)

abbrev pub PairBefore : ℕ → ℕ → ℕ → ℕ → Type 0
PairBefore a b x y = (a < x) ⊎ ((a ≡ x) × (b < y))

-- a pair that was found, and no earlier one is worth as much
pub record FirstOf (n : ℕ) (R : ℕ → ℕ → ℕ) (c : Choice) : Type 0 where
  pub ordered : c.x < c.y
  pub below : c.y < n
  pub rank : R c.x c.y ≡ c.rank
  pub first : (a b : ℕ) → a < b → b < n → PairBefore a b c.x c.y → R a b < c.rank

pub record Best (n : ℕ) (R : ℕ → ℕ → ℕ) (x y : ℕ) (c : Choice) : Type 0 where
  pub top : (a b : ℕ) → a < b → b < n → PairBefore a b x y → R a b ≤ c.rank
  pub small : c.rank ≤ BOTH
  pub found : (c.rank ≡ 0) ⊎ FirstOf n R c

abbrev pub ChosenPair : Option (ℕ × ℕ) → Choice → Type 0
ChosenPair (some p) c = (c.x ≡ p.0) × (c.y ≡ p.1)
ChosenPair none c = c.rank ≡ 0

-- what comes next in the branch E: its circle, or the pair that is chosen
abbrev pub NextIn : Frame → Table → List Claim → Next → Type 0
NextIn f K E Circle = So (fallen f K E)
NextIn f K E (Split x y) = (fallen f K E ≡ false) × ((p : ℕ × ℕ) → choose f K E ≡ some p → (x ≡ p.0) × (y ≡ p.1))
