-- When a model is kept: the valid orders of a trace under a table of kept pairs.
--
--   Visible f xs S L == S is among the writers that L's value is taken from, in the list xs
--   Sees f xs L v    == in the list xs the value that L must read is v
--   Keeps K xs       == the list keeps the pairs of a table
--   Once f xs        == each operation stands in the list once, and nothing else does
--   Valid f K xs     == xs is a valid order: all there, kept pairs, values
use Rattle.std.specs.Prelude.{◌≡◌, ◌⊎◌, cond, List, ℕ, ◌≤◌}
use Rattle.std.proofs.Math.Bool.{So}
use Rattle.laws.specs.Places.{pos, count, Before}
use Rattle.laws.specs.Relation.{Table}
use Rattle.rules.specs.Frame.{Frame, Writer}

-- a store or swap to L's address, other than L, that is before L in the list or before L in program order
pub record Visible (f : Frame) (xs : List ℕ) (S L : ℕ) : Type 0 where
  pub writer : Writer f S L
  pub early : Before xs S L ⊎ So (f.earlier S L)

-- with no such writer, the first value; otherwise what the one latest in the list wrote
pub data Sees (f : Frame) (xs : List ℕ) (L v : ℕ) : Type 0 where
  nobody : v ≡ f.first (f.address L) → ((S : ℕ) → Visible f xs S L → ⊥) → Sees f xs L v
  latest : (S : ℕ) → v ≡ f.written S → Visible f xs S L → ((S' : ℕ) → Visible f xs S' L → pos xs S' ≤ pos xs S) → Sees f xs L v

abbrev pub Keeps : Table → List ℕ → Type 0
Keeps K xs = (x y : ℕ) → So (K x y) → Before xs x y

abbrev pub Once : Frame → List ℕ → Type 0
Once f xs = (x : ℕ) → count x xs ≡ cond (f.operation x) 1 0

pub record Valid (f : Frame) (K : Table) (xs : List ℕ) : Type 0 where
  pub all : Once f xs
  pub kept : Keeps K xs
  pub value : (L : ℕ) → So (f.reads L) → Sees f xs L (f.read L)
