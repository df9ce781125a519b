-- The edges that the rules force, round by round. K is the table of kept pairs, P that of the supposed ones.
--
--   Gives f K P C x y r  == rule r gives the edge x, y, where C are the chains of the round before
--   Step f K P C x y     == some rule gives it
--   Chains f K P k x y   == a chain leads from x to y before round k: none before round 0, and then those of the round before
--   Edge f K P k x y     == round k has the edge x, y
--   Last f K P k         == the round after round k adds nothing
--   Held f K P x y       == the rules force x before y
--   Contradicted f K P   == a chain leads from an operation to itself
--   nothing              == no supposed pairs
--   InRecords f K        == the pairs of K join records of the trace
--   Joins f K            == the pairs of K join operations
use Rattle.std.specs.Prelude.{false, ◌≢◌, ℕ, zero, suc, ◌<◌}
use Rattle.std.proofs.Math.Bool.{So}
use Rattle.laws.specs.Relation.{Rel, Table, ◌⊆◌, Chain}
use Rattle.rules.specs.Frame.{Frame, Writer, Source, First}

-- S and S' of document 01 differ, and both differ from L: the latter is what Writer says
pub data Gives (f : Frame) (K P : Table) (C : Rel) (x y : ℕ) : ℕ → Type 0 where
  -- a kept pair
  rule1 : So (K x y) → Gives f K P C x y 1
  -- the source, unless the load's own core wrote it before
  rule2 : Source f x y → (So (f.earlier x y) → ⊥) → Gives f K P C x y 2
  -- another writer of the load's past comes before the source
  rule3 : (L : ℕ) → Source f y L → Writer f x L → x ≢ y → So (f.earlier x L) → Gives f K P C x y 3
  -- who reads the first value comes before every writer
  rule4 : First f y x → Gives f K P C x y 4
  -- and after those of its own past, so that both close a circle
  rule5 : First f x y → So (f.earlier x y) → Gives f K P C x y 5
  -- another writer before the load comes before the source
  rule6 : (L : ℕ) → Source f y L → Writer f x L → x ≢ y → C x L → Gives f K P C x y 6
  -- another writer after the source comes after the load
  rule7 : (S : ℕ) → Source f S x → Writer f y x → y ≢ S → C S y → Gives f K P C x y 7
  -- a supposed pair
  rule8 : So (P x y) → Gives f K P C x y 8

module _ (f : Frame) (K P : Table) where
  abbrev pub Step : Rel → Rel
  Step C x y = (r : ℕ) × Gives f K P C x y r

  abbrev pub Chains : ℕ → Rel
  Chains zero x y = ⊥
  Chains (suc k) x y = Chain (Step (Chains k)) x y

  abbrev pub Edge : ℕ → Rel
  Edge k = Step (Chains k)

  unfoldable pub Last : ℕ → Type 0
  Last k = Edge (suc k) ⊆ Edge k

  -- Rounds only add, so a chain of any round is one of the last. Document 01 ends the rounds at a circle too, where nothing is asked of what is held.
  abbrev pub Held : Rel
  Held x y = (k : ℕ) × Chains k x y

  abbrev pub Contradicted : Type 0
  Contradicted = (x : ℕ) × Held x x

abbrev pub nothing : Table
nothing x y = false

abbrev pub InRecords : Frame → Table → Type 0
InRecords f K = (x y : ℕ) → So (K x y) → (x < f.records) × (y < f.records)

abbrev pub Joins : Frame → Table → Type 0
Joins f K = (x y : ℕ) → So (K x y) → So (f.operation x) × So (f.operation y)
