-- Where the records stand in a list, as an array with a place for each of them.
--
--   Sited xs s       == s has for each record where it first stands in xs; the length of xs if it does not
--   SitedFrom xs i s == the same, where only places from i on are looked at
--   Numbers xs       == each number of xs is that of a record
--   out_at K s x y    == the pair x, y of K is out of turn by those places
--   early_at K n s x  == some pair of K that begins with x is
use Rattle.std.specs.Prelude.{◌≡◌, Bool, not, ◌&&◌, List, ℕ, ◌+◌, ◌<◌, ◌≤◌, ltb, length, get_or, drop}
use Rattle.laws.specs.Tests.{any}
use Rattle.laws.specs.Places.{pos}
use Rattle.laws.specs.Relation.{Table}
use Rattle.trace.specs.Bounds.{RECORDS}

pub record Sited (xs s : List ℕ) : Type 0 where
  pub long : length s ≡ RECORDS
  pub each : (x : ℕ) → x < RECORDS → get_or s x 0 ≡ pos xs x

pub record SitedFrom (xs : List ℕ) (i : ℕ) (s : List ℕ) : Type 0 where
  pub long : length s ≡ RECORDS
  pub fits : i ≤ length xs
  pub each : (x : ℕ) → x < RECORDS → get_or s x 0 ≡ i + pos (drop i xs) x

abbrev pub Numbers : List ℕ → Type 0
Numbers xs = (i : ℕ) → i < length xs → get_or xs i 0 < RECORDS

unfoldable pub out_at : Table → List ℕ → ℕ → ℕ → Bool
out_at K s x y = K x y && not (ltb (get_or s x 0) (get_or s y 0))

unfoldable pub early_at : Table → ℕ → List ℕ → ℕ → Bool
early_at K n s x = any n (out_at K s x)
