-- The value that a load must read in a list.
--
--   visible? f xs i L == the record at place i of xs is among the writers that L's value is taken from
--   seen f xs L       == the value that L must read in xs
use Rattle.std.specs.Prelude.{Bool, ◌&&◌, ◌||◌, List, ℕ, ltb, length, get_or}
use Rattle.laws.specs.Places.{pos}
use Rattle.laws.specs.Latest.{last_of}
use Rattle.rules.specs.Frame.{Frame}
use Rattle.rules.specs.RuleTests.{writer?}

unfoldable pub visible? : Frame → List ℕ → ℕ → ℕ → Bool
visible? f xs i L = writer? f (get_or xs i 0) L && (ltb i (pos xs L) || f.earlier (get_or xs i 0) L)

unfoldable pub seen : Frame → List ℕ → ℕ → ℕ
seen f xs L = last_of (λ i. visible? f xs i L) (λ i. f.written (get_or xs i 0)) (f.first (f.address L)) (length xs)
