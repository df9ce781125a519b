-- The memory of the search: sets of operations below which there is no valid order. It may forget.
--
--   slot_of dead s       == the set in slot s
--   Recalls dead set    == some slot has the set
--   Noted dead set next == next is dead with the set in some slots
--   BuiltSet f b p set  == p was built by placing ready operations, and the set is its set
--   Dead f K b dead     == no list of at least one operation whose set is remembered goes on to a valid order
use Rattle.std.specs.Prelude.{◌≡◌, ◌⊎◌, List, ℕ, ◌*◌, ◌<◌, length, take, drop}
use Rattle.std.proofs.Math.Option.{none}
use Rattle.laws.specs.Relation.{Table}
use Rattle.laws.specs.Dict.{Answer}
use Rattle.rules.specs.Frame.{Frame}
use Rattle.rules.specs.Order.{Valid}
use Rattle.rows.specs.Bounds.{WORDS}
use Rattle.rules.specs.inner.Discipline.{Disciplined}
use Rattle.search.specs.inner.Bounds.{SLOTS}
use Rattle.search.specs.inner.SearchTables.{Led}
use Rattle.rows.specs.inner.Sets.{Holds}

unfoldable pub slot_of : List ℕ → ℕ → List ℕ
slot_of dead s = take WORDS (drop (s * WORDS) dead)

abbrev pub Recalls : List ℕ → List ℕ → Type 0
Recalls dead set = (s : ℕ) × (s < SLOTS) × (slot_of dead s ≡ set)

pub record Noted (dead set next : List ℕ) : Type 0 where
  pub long : length next ≡ length dead
  pub slot : (s : ℕ) → (slot_of next s ≡ slot_of dead s) ⊎ (slot_of next s ≡ set)

pub record BuiltSet (f : Frame) (before p set : List ℕ) : Type 0 where
  pub built : Disciplined f (Led before) p
  pub holds : Holds set p

abbrev pub Dead : Frame → Table → List ℕ → List ℕ → Type 0
Dead f K before dead = (s : ℕ) → s < SLOTS → (p : List ℕ) → BuiltSet f before p (slot_of dead s) → 0 < length p → Answer (Valid f K) p none
