-- Walks that are made an edge longer, turn by turn.
--
--   RowsTurn E W x m  == what the turn of m adds: where an edge from x to m and then a walk leads
--   AllTurn E W x     == what the turn of x adds: where an edge from x and then a walk leads
--   rows_all, all-all == all turns together
--   rows-first, rows_next == at the first edge of x; and from one edge to the next
use mathlib.Core.Path.{◌≡◌, refl, sym, subst}
use mathlib.Core.Logic.{◌↔◌}
use mathlib.Core.List.{List}
use Prim.Native.Nat.{ℕ, ◌+◌, ◌<◌}
use native.Mathlib.Omega.{arith}
use Rattle.laws.specs.Relation.{Rel}
use Rattle.trace.specs.Bounds.{RECORDS}
use Rattle.rows.specs.Rows.{Edges}
use Rattle.rows.specs.Next.{NextInRow}
use Rattle.rows.proofs.Rows.{bit-bounds}
use Rattle.edges.proofs.DrawnEdges.{next-on}
use Rattle.circle.specs.inner.WalkRows.{Widened, StepThen}
use Rattle.circle.proofs.WalkRows.{Some, added_none, added-when, added-turn, added-far}

abbrev pub RowsTurn : List ℕ → List ℕ → ℕ → ℕ → Rel
RowsTurn E W x m i j = ((i ≡ x) × Edges W m j) × Edges E x m

abbrev pub AllTurn : List ℕ → List ℕ → ℕ → Rel
AllTurn E W x i j = (i ≡ x) × StepThen (Edges E) (Edges W) x j

pub rows_all : (E W : List ℕ) (x i j : ℕ) → Some RECORDS (RowsTurn E W x) i j ↔ ((i ≡ x) × StepThen (Edges E) (Edges W) x j)
rows_all E W x i j = (
  λ s. (s.2.0.0, (s.0, s.2.1, s.2.0.1)),
  λ e. (e.1.0, (bit-bounds E x e.1.0 e.1.1).1, ((e.0, e.1.2), e.1.1)),
)

pub all-all : (E W : List ℕ) (i j : ℕ) → Some RECORDS (AllTurn E W) i j ↔ StepThen (Edges E) (Edges W) i j
all-all E W i j = (
  λ s. subst (λ (x : ℕ). StepThen (Edges E) (Edges W) x j) (sym s.2.0) s.2.1,
  λ e. (i, (bit-bounds E i e.0 e.1).0, (refl, e)),
)

module _ (edges walks before : List ℕ) (x : ℕ) where
  pub rows-first : (m : ℕ) → NextInRow edges x 0 m → Widened before (Some m (RowsTurn edges walks x)) before
  rows-first m first = added-far before (RowsTurn edges walks x) 0 m before (omega arith) (added_none before (RowsTurn edges walks x)) (λ z i j h l b. first.skips z h l b.1)

  pub rows_next : (m k : ℕ) (now after : List ℕ) → m < RECORDS → Edges edges x m → NextInRow edges x (m + 1) k → Widened before (Some m (RowsTurn edges walks x)) now → Widened now (λ i j. (i ≡ x) × Edges walks m j) after
      → Widened before (Some k (RowsTurn edges walks x)) after
  rows_next m k now after h e further a b =
      added-far before (RowsTurn edges walks x) (m + 1) k after (omega (arith, next-on edges x m k further h))
      (added-turn before (RowsTurn edges walks x) m now after a (added-when now (λ i j. (i ≡ x) × Edges walks m j) (Edges edges x m) after e b))
      (λ z i j p l b. further.skips z p l b.1)
