-- Lists of numbers compared.
--
--   alike a b == the two are the same list
use Rattle.std.specs.Prelude.{Bool, ◌&&◌, List, ℕ, eqb, length, get_or}
use Rattle.laws.specs.Tests.{all}

unfoldable pub alike : List ℕ → List ℕ → Bool
alike a b = eqb (length a) (length b) && all (length a) (λ i. eqb (get_or a i 0) (get_or b i 0))
