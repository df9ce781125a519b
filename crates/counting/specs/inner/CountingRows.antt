-- How the tables of the plain search are laid from a trace.
--
--   Among n P set    == the set has exactly the numbers below n that pass P
--   SetsOf f n ops reads served m == the sets of the operations, of the reads, and of the reads of a first value, and how many operations there are
--   owns f x y       == x is an own writer of y: it writes y's address, and is earlier in its program order
--   feeds? f reads served x y == x writes what y read, where the sets have the reads and those of a first value
--   FilledRows n R rows == row x of the rows has exactly the y with R x y, where both are below n
--   Rows f K n ..    == the four relations of the search
use Rattle.std.specs.Prelude.{◌≡◌, ◌↔◌, Bool, not, ◌&&◌, List, ℕ, ◌<◌, eqb, length}
use Rattle.std.proofs.Math.Bool.{So}
use Rattle.laws.specs.Relation.{Table}
use Rattle.rules.specs.Frame.{Frame}
use Rattle.rows.specs.Bounds.{WORDS}
use Rattle.rows.specs.Rows.{bit}
use Rattle.rules.specs.RuleTests.{writer?}
use Rattle.edges.specs.inner.DrawnEdges.{reads_first}
use Rattle.rules.specs.Ready.{operations}

pub record Among (n : ℕ) (P : ℕ → Bool) (set : List ℕ) : Type 0 where
  pub long : length set ≡ WORDS
  pub has : (x : ℕ) → So (bit set 0 x) ↔ ((x < n) × So (P x))

pub record SetsOf (f : Frame) (n : ℕ) (ops reads served : List ℕ) (m : ℕ) : Type 0 where
  pub total : m ≡ operations f
  pub operation : Among n f.operation ops
  pub read : Among n f.reads reads
  pub first : Among n (reads_first f) served

unfoldable pub owns : Frame → Table
owns f x y = writer? f x y && f.earlier x y

unfoldable pub feeds? : Frame → List ℕ → List ℕ → Table
feeds? f reads served x y = writer? f x y && (bit reads 0 y && eqb (f.read y) (f.written x)) && not (bit served 0 y)

pub record FilledRows (n : ℕ) (R : Table) (rows : List ℕ) : Type 0 where
  pub pairs : (x y : ℕ) → So (bit rows x y) ↔ ((x < n) × (y < n) × So (R x y))

pub record Rows (f : Frame) (K : Table) (n : ℕ) (reads served partners own fed rivals : List ℕ) : Type 0 where
  pub kept : FilledRows n (λ y x. K x y) partners
  pub owned : FilledRows n (λ y x. owns f x y) own
  pub sourced : FilledRows n (feeds? f reads served) fed
  pub rival : FilledRows n (writer? f) rivals
