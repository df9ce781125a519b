-- Branches that name no edge twice.
--
--   Named E x y == an entry of E is x before y
--   Distinct E  == E names no edge twice
--   Fair n E    == so it is, and what it names are records below n
use Rattle.std.specs.Prelude.{◌≡◌, List, [], ℕ, ◌<◌, length}
use Rattle.laws.specs.Relation.{Rel}
use Rattle.papers.specs.Paper.{Claim, edge_at, named}

abbrev pub Named : List Claim → Rel
Named E x y = (i : ℕ) × (i < length E) × (((edge_at E i).from ≡ x) × ((edge_at E i).to ≡ y))

pub data Distinct : List Claim → Type 0 where
  none_yet : Distinct []
  further : {E : List Claim} {x y : ℕ} → Distinct E → (Named E x y → ⊥) → Distinct (named E x y)

pub record Fair (n : ℕ) (E : List Claim) : Type 0 where
  pub once : Distinct E
  pub below : (x y : ℕ) → Named E x y → (x < n) × (y < n)
