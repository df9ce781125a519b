-- How the tables of the search are laid from a trace and what is held in it.
--
--   Filled n R rows     == row y of the rows has exactly the x with R x y, where both are below n
--   reader? f y x       == x writes the address of y, which is another record
--   Addressed t all k by == row a of the rows has exactly those of the first k records that write address a; with `all`, those that have it
--   Rowed y In Out a b  == b is a, where row y took what In has and then lost what Out has
--   Filling k n R rows  == the rows below k are as Filled says, and the others are empty
--   Counted f ops m     == ops is the set of the operations, and m their number
--   Sources f n sources == of each record below n, its source
--   Guided f K held     == what is held joins records, and guides the search for the valid orders under K
use Rattle.std.specs.Prelude.{◌≡◌, ◌⊎◌, ◌↔◌, Bool, ◌||◌, List, ℕ, ◌<◌, length, get_or}
use Rattle.std.proofs.Math.Bool.{So}
use Rattle.laws.specs.Relation.{Table}
use Rattle.laws.specs.inner.Sorted.{On}
use Rattle.trace.specs.Bounds.{RECORDS}
use Rattle.rules.specs.Frame.{Frame}
use Rattle.trace.specs.Op.{address, writes}
use Rattle.trace.specs.Trace.{at}
use Rattle.trace.specs.declared.Trace.{Trace}
use Rattle.rows.specs.Bounds.{CELLS}
use Rattle.rows.specs.Rows.{bit, Edges}
use Rattle.rules.specs.Rules.{InRecords}
use Rattle.rules.specs.RuleTests.{writer?}
use Rattle.pairs.specs.SourceOf.{source_of}
use Rattle.rules.specs.Ready.{operations}
use Rattle.rules.specs.inner.Discipline.{Guide}

pub record Filled (n : ℕ) (R : Table) (rows : List ℕ) : Type 0 where
  pub pairs : (x y : ℕ) → So (bit rows y x) ↔ ((y < n) × (x < n) × So (R x y))

abbrev pub reader? : Frame → Table
reader? f y x = writer? f x y

pub record Addressed (t : Trace) (all : Bool) (k : ℕ) (by : List ℕ) : Type 0 where
  pub long : length by ≡ CELLS
  pub pairs : (a x : ℕ) → So (bit by a x) ↔ ((x < k) × So (writes (at t x) || all) × (address (at t x) ≡ a))

pub record Rowed (y : ℕ) (In Out : ℕ → Type 0) (rows next : List ℕ) : Type 0 where
  pub long : length next ≡ length rows
  pub pairs : (i x : ℕ) → So (bit next i x) ↔ ((Edges rows i x ⊎ ((i ≡ y) × In x)) × ((i ≡ y) × Out x → ⊥))

pub record Filling (k n : ℕ) (R : Table) (rows : List ℕ) : Type 0 where
  pub long : length rows ≡ CELLS
  pub pairs : (x y : ℕ) → So (bit rows y x) ↔ ((y < k) × (x < n) × So (R x y))

pub record Counted (f : Frame) (ops : List ℕ) (m : ℕ) : Type 0 where
  pub total : m ≡ operations f
  pub has : (x : ℕ) → So (bit ops 0 x) ↔ So (f.operation x)

pub record Sources (f : Frame) (n : ℕ) (sources : List ℕ) : Type 0 where
  pub long : length sources ≡ RECORDS
  pub source : (L : ℕ) → L < n → get_or sources L 0 ≡ source_of f L

pub record Guided (f : Frame) (K : Table) (held : List ℕ) : Type 0 where
  pub guide : Guide f K (On (bit held))
  pub within : InRecords f (bit held)
