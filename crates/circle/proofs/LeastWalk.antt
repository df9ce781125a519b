-- The least length of a closed walk, tried from 1 on.
--
--   Trying E k walks    == no closed walk is shorter than k, and the rows have the walks of length k
--   try-first, try-next == the edges are the walks of length 1; and one length more
--   try-found, try-past == a pair of a number with itself is a closed walk; once all lengths up to RECORDS are tried there is no circle
use mathlib.Core.Path.{◌≡◌, refl, sym, ◌∙◌, subst}
use mathlib.Core.Bool.{false, So, false≢true}
use mathlib.Core.List.{List}
use Prim.Native.Nat.{ℕ, ◌+◌, ◌≤◌, ◌<◌}
use native.Mathlib.Numerals.{add-one}
use native.Mathlib.Omega.{arith}
use Rattle.laws.specs.Tests.{any}
use Rattle.laws.specs.Relation.{Rel}
use Rattle.laws.proofs.Tests.{so-any}
use Rattle.trace.specs.Bounds.{RECORDS}
use Rattle.rows.specs.Rows.{bit, Edges}
use Rattle.rows.proofs.Rows.{bit-bounds}
use Rattle.rules.specs.inner.ExactWalks.{Walk, NoShorter}
use Rattle.circle.specs.inner.WalkRows.{Exactly, StepThen}
use Rattle.circle.specs.inner.LeastWalk.{LeastWalk}
use Rattle.rules.proofs.ExactWalks.{no-shorter-one, no-shorter-next, no-shorter-none}

pub record Trying (E : Rel) (k : ℕ) (walks : List ℕ) : Type 0 where
  pub least : NoShorter E k
  pub exact : Exactly walks (Walk E k)

pub try-first : (edges : List ℕ) → Trying (Edges edges) 1 edges
try-first edges = record {
  least = no-shorter-one (Edges edges);
  exact = λ x y. (λ t. (y, t, refl), λ w. subst (Edges edges x) w.2 w.1);
}

module _ (E : Rel) (k : ℕ) (walks : List ℕ) (t : Trying E k walks) where
  pub try-next : (next : List ℕ) → any RECORDS (λ x. bit walks x x) ≡ false → Exactly next (StepThen E (Edges walks)) → Trying E (k + 1) next
  try-next next none q = rw add-one record {
    least = no-shorter-next E k t.least (λ x w. let s = (t.exact x x).1 w in false≢true (sym none ∙ (so-any RECORDS _).1 (x, (bit-bounds walks x x s).0, s)));
    exact = λ x y. (
      λ s. let (m, e, w) = (q x y).0 s in (m, e, (t.exact m y).0 w),
      λ s. (q x y).1 (s.0, s.1, (t.exact s.0 y).1 s.2),
    );
  }

  pub try-found : 0 < k → k ≤ RECORDS → So (any RECORDS (λ x. bit walks x x)) → LeastWalk E k walks
  try-found p l some =
      let (x, _, s) = (so-any RECORDS _).0 some in
      record { within = l; clear = λ z. absurd (omega arith); least = λ _. t.least; closed = λ _. (x, (t.exact x x).0 s); exact = λ _. t.exact }

pub try-past : (edges : List ℕ) (k : ℕ) (walks : List ℕ) → RECORDS < k → Trying (Edges edges) k walks → LeastWalk (Edges edges) 0 walks
try-past edges k walks l t = record {
  within = omega arith;
  clear = λ _. no-shorter-none (Edges edges) RECORDS (bit-bounds edges) k l t.least;
  least = λ p. absurd (omega arith);
  closed = λ p. absurd (omega arith);
  exact = λ p. absurd (omega arith);
}
