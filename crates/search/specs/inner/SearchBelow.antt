-- What the search below the first k places of a list does.
--
--   follows_as r k m list      == what follows k places in the first m of the list, if the search found one
--   Room T k list placed dead == everything has the size that the search needs
--   Sought T list k placed dead list' dead' r        == r and list' are the first valid order that begins with the first k places of list, or that
--                                                       there is none, whatever the tables were laid for; those places stand, and the memory stays right
--   Trying T list k placed dead y failed list' dead' == the loop there has tried what is below y; failed are those that were ready
use Rattle.std.specs.Prelude.{◌≡◌, Bool, true, false, List, ℕ, ◌*◌, ◌≤◌, length, take, drop}
use Rattle.std.proofs.Math.Bool.{So}
use Rattle.std.proofs.Math.Option.{Option, none, some}
use Rattle.laws.specs.Relation.{Table}
use Rattle.laws.specs.Dict.{Answer}
use Rattle.laws.specs.inner.TryingInTurn.{Tried}
use Rattle.trace.specs.Bounds.{RECORDS}
use Rattle.rules.specs.Frame.{Frame}
use Rattle.rules.specs.Order.{Valid}
use Rattle.rows.specs.Bounds.{WORDS}
use Rattle.rows.specs.Rows.{bit}
use Rattle.rules.specs.inner.EarlyStop.{Failed}
use Rattle.search.specs.inner.Bounds.{SLOTS}
use Rattle.search.specs.inner.SearchTables.{Tables, Led, Laid}
use Rattle.search.specs.inner.DeadSets.{BuiltSet, Dead}

abbrev pub follows_as : Bool → ℕ → ℕ → List ℕ → Option (List ℕ)
follows_as true k m list = some (drop k (take m list))
follows_as false k m list = none

pub record Room (T : Tables) (k : ℕ) (list placed dead : List ℕ) : Type 0 where
  pub records : T.n ≤ RECORDS
  pub sources : T.n ≤ length T.sources
  pub places : T.total ≤ length list
  pub left : k ≤ T.total
  pub set : length placed ≡ WORDS
  pub memory : length dead ≡ SLOTS * WORDS

module _ (T : Tables) (list : List ℕ) (k : ℕ) (placed dead : List ℕ) where
  pub record Sought (list' dead' : List ℕ) (r : Bool) : Type 0 where
    pub kept : take k list' ≡ take k list
    pub right : (f : Frame) (K : Table) → Laid f K T → BuiltSet f T.before (take k list) placed → Dead f K T.before dead
        → Answer (Valid f K) (take k list) (follows_as r k T.total list') × Dead f K T.before dead'

  pub record Trying (y : ℕ) (failed list' dead' : List ℕ) : Type 0 where
    pub listed : length list' ≡ length list
    pub kept : take k list' ≡ take k list
    pub memory : length dead' ≡ length dead
    pub set : length failed ≡ WORDS
    pub tried : (f : Frame) (K : Table) → Laid f K T → BuiltSet f T.before (take k list) placed → Dead f K T.before dead
        → Tried (Valid f K) (take k list) y × Failed f K (Led T.before) (take k list) (λ z. So (bit failed 0 z)) × Dead f K T.before dead'
