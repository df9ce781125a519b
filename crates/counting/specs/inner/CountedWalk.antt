-- What the search below the first k places of a list does, within a budget.
--
--   CountingTables == how many records there are, how many operations, and the rows; `counting_tables` makes one
--   LaidTables f K T == the tables T say what f and K say
--   CountingRoom T k .. == everything has the size that the search needs
--   Brings r list left w == w is what a search that makes r's steps and finds what r finds brings back, where `left` steps may be made, and `list` is what it
--                     wrote behind the list that it began with
--   Counts T list k placed served left list' r == r and list' are what the plain search below the first k places brings back; those places stand
--   Going T list k placed served left y used list' == the loop there has made `used` steps and gone through the numbers below y
use Rattle.std.specs.Prelude.{◌≡◌, ◌↔◌, cond, List, ℕ, suc, ◌*◌, ◌-◌, ◌<◌, ◌≤◌, leb, length, take, drop}
use Rattle.std.proofs.Math.Bool.{So}
use Rattle.std.proofs.Math.Option.{Option, none, some}
use Rattle.laws.specs.Relation.{Table}
use Rattle.trace.specs.Bounds.{RECORDS}
use Rattle.rules.specs.Frame.{Frame, Good, Writer, Source}
use Rattle.rows.specs.Bounds.{WORDS}
use Rattle.rows.specs.Rows.{bit}
use Rattle.rules.specs.Ready.{operations}
use Rattle.plain.specs.Plain.{Orderly, plain}
use Rattle.plain.specs.inner.BudgetedWalk.{Looped}
use Rattle.plain.specs.inner.Remembered.{StandsFor}
use Rattle.counting.specs.inner.FailedLists.{LISTS, Recalled}
use Rattle.counting.specs.declared.Walked.{Walked}
use Rattle.counting.specs.declared.Walked.TheVariants.{Order, End, Over}

pub record CountingTables : Type 0 where
  pub n : ℕ
  pub total : ℕ
  pub operations : List ℕ
  pub reads : List ℕ
  -- row c: who must be placed before c; the writers of c's address that are earlier in its program order
  pub partners : List ℕ
  pub own : List ℕ
  -- row y: who reads from y; who is at an address that y writes, but y
  pub fed : List ℕ
  pub rivals : List ℕ

abbrev pub counting_tables : ℕ → ℕ → List ℕ → List ℕ → List ℕ → List ℕ → List ℕ → List ℕ → CountingTables
counting_tables n total operations reads partners own fed rivals = record {
  n = n;
  total = total;
  operations = operations;
  reads = reads;
  partners = partners;
  own = own;
  fed = fed;
  rivals = rivals;
}

pub record LaidTables (f : Frame) (K : Table) (T : CountingTables) : Type 0 where
  pub good : Good f
  pub orderly : Orderly f K
  pub records : f.records ≡ T.n
  pub total : operations f ≡ T.total
  pub operation : (x : ℕ) → So (bit T.operations 0 x) ↔ So (f.operation x)
  pub reads : (x : ℕ) → So (bit T.reads 0 x) ↔ So (f.reads x)
  pub partners : (x c : ℕ) → c < T.n → So (bit T.partners c x) ↔ So (K x c)
  pub own : (S c : ℕ) → c < T.n → So (bit T.own c S) ↔ (Writer f S c × So (f.earlier S c))
  pub fed : (y c : ℕ) → y < T.n → So (bit T.fed y c) ↔ Source f y c
  pub rivals : (y c : ℕ) → y < T.n → c < T.n → So (bit T.rivals y c) ↔ Writer f y c

pub record CountingRoom (T : CountingTables) (k : ℕ) (list placed served sets serves counts : List ℕ) : Type 0 where
  pub records : T.n ≤ RECORDS
  pub few : T.total ≤ RECORDS
  pub places : T.total ≤ length list
  pub left : k ≤ T.total
  pub set : length placed ≡ WORDS
  pub reads : length served ≡ WORDS
  pub slots : length sets ≡ LISTS * WORDS
  pub slots' : length serves ≡ LISTS * WORDS
  pub numbers : length counts ≡ LISTS

abbrev pub Brings : ℕ × Option (List ℕ) → List ℕ → ℕ → Walked → Type 0
Brings r list left (Order c) = r ≡ (c, some list)
Brings r list left (End c) = r ≡ (c, none)
Brings r list left Over = left < r.0

-- what it makes is within the budget
abbrev pub FitsBudget : ℕ → Walked → Type 0
FitsBudget left (Order c) = c ≤ left
FitsBudget left (End c) = c ≤ left
FitsBudget left Over = Unit {0}

abbrev pub recalled_of : ℕ → ℕ → Walked
recalled_of steps left = cond (leb steps left) (End steps) Over

module _ (T : CountingTables) (list : List ℕ) (k : ℕ) (placed served : List ℕ) (left : ℕ) (sets serves counts : List ℕ) where
  pub record Counts (list' sets' serves' counts' : List ℕ) (r : Walked) : Type 0 where
    pub kept : take k list' ≡ take k list
    pub right : (f : Frame) (K : Table) → LaidTables f K T → StandsFor f K (take k list) (bit placed 0) (bit served 0) → Recalled f K sets serves counts
        → Brings (plain f K (T.total - k) (take k list)) (drop k (take T.total list')) left r × Recalled f K sets' serves' counts'
    pub within : FitsBudget left r

  pub record Going (y used : ℕ) (list' sets' serves' counts' : List ℕ) : Type 0 where
    pub below : y ≤ T.n
    pub budget : used ≤ left
    pub listed : length list' ≡ length list
    pub kept : take k list' ≡ take k list
    pub slots : length sets' ≡ length sets
    pub slots' : length serves' ≡ length serves
    pub numbers : length counts' ≡ length counts
    pub looped : (f : Frame) (K : Table) → LaidTables f K T → StandsFor f K (take k list) (bit placed 0) (bit served 0) → Recalled f K sets serves counts
        → Looped f K (T.total - suc k) (take k list) used y × Recalled f K sets' serves' counts'
