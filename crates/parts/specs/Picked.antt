-- Some records of a trace as a trace of their own, which begins with the same values.
--
--   picked_to t A k, olds_to A k == the records of A among the first k, closed up, and their old numbers
--   picked t A, olds t A       == the same among all
use Rattle.std.specs.Prelude.{cond, List, [], ◌∷◌, ◌++◌, ℕ, zero, suc}
use Rattle.trace.specs.Trace.{at, pushed, up_to}
use Rattle.trace.specs.declared.Trace.{Trace}
use Rattle.parts.specs.Removal.{Set}

unfoldable pub picked_to : Trace → Set → ℕ → Trace
picked_to t A zero = up_to t 0
picked_to t A (suc k) = cond (A k) (pushed (picked_to t A k) (at t k)) (picked_to t A k)

unfoldable pub olds_to : Set → ℕ → List ℕ
olds_to A zero = []
olds_to A (suc k) = cond (A k) (olds_to A k ++ k ∷ []) (olds_to A k)

abbrev pub picked : Trace → Set → Trace
picked t A = picked_to t A t.len

abbrev pub olds : Trace → Set → List ℕ
olds t A = olds_to A t.len
