-- The way that the writer takes, where e has edges, c their chains, and no chain leads from a number to itself.
--
--   step_of e c x b == the highest step from x from which a chain leads on to b
--   way_of e c m x b == what stands between x and b on the way by such steps, at most m of them; an edge from x to b is taken at once
use Rattle.std.specs.Prelude.{true, false, ◌&&◌, List, [], ◌∷◌, ℕ, zero, suc}
use Rattle.laws.specs.Relation.{Table}
use Rattle.laws.specs.Latest.{last_of}
use Rattle.trace.specs.Bounds.{RECORDS}

unfoldable pub step_of : Table → Table → ℕ → ℕ → ℕ
step_of e c x b = last_of (λ z. e x z && c z b) (λ z. z) RECORDS RECORDS

unfoldable pub way_of : Table → Table → ℕ → ℕ → ℕ → List ℕ
way_of e c zero x b = []
way_of e c (suc m) x b = elim (e x b) [ true ↦ [] | false ↦ step_of e c x b ∷ way_of e c m (step_of e c x b) b ]
