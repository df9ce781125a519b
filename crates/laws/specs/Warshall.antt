-- The chains of a table, computed. Tables are kept as lists, so that antt works each entry out once.
--
--   memo n e     == the entries of e below n, and no others
--   wars n e k   == the chains of e below n that pass through numbers below k only
--   chains n e   == the chains of e below n
use Rattle.std.specs.Prelude.{false, ◌&&◌, ◌||◌, [], ℕ, zero, suc, get_or}
use Rattle.laws.specs.Relation.{Table}
use Rattle.laws.specs.ListOf.{row}

unfoldable pub memo : ℕ → Table → Table
memo n e = let t = row (λ x. row (e x) 0 n) 0 n in λ x y. get_or (get_or t x []) y false

unfoldable pub wars : ℕ → Table → ℕ → Table
wars n e zero = memo n e
wars n e (suc k) = let w = wars n e k in memo n (λ x y. w x y || (w x k && w k y))

abbrev pub chains : ℕ → Table → Table
chains n e = wars n e n
