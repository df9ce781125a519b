-- What an edge rests on, as a function finds it.
--
--   resting_on tell E r x y a zs b == the edges from a by way of zs to b, told in the branch E, and then the edge x, y by rule r, which rests on them
--   Resting f K P k x y steps r c  == the edge x, y of round k is told, in a branch that does not name it, as one by rule r that rests on the edges of the chain c, by the
--                                     first of the steps, each told as one of an earlier round
--   RestsOn f K P k x y steps r o  == so it is told where o is a chain; alone by rule r where there is none
use Rattle.std.specs.Prelude.{◌≡◌, false, List, [], ◌∷◌, ◌++◌, ℕ, ◌<◌, ◌≤◌, take, get_or, Option, Some, None}
use Rattle.laws.specs.Relation.{Table}
use Rattle.trace.specs.Bounds.{RECORDS}
use Rattle.rules.specs.Frame.{Frame}
use Rattle.papers.specs.Paper.{Claim, Entry}
use Rattle.reasons.specs.Telling.{edges_of, inside, numbers, along, tell}
use Rattle.reasons.specs.declared.story.Chain.{Chain}

abbrev pub resting_on : (List Claim → ℕ → ℕ → List Entry) → List Claim → ℕ → ℕ → ℕ → ℕ → List ℕ → ℕ → List Entry
resting_on tell E r x y a zs b = along tell E a zs b ++ record { rule = r; from = x; to = y; rests = numbers (E ++ edges_of (along tell E a zs b)) a zs b } ∷ []

pub record Resting (f : Frame) (K P : Table) (k x y : ℕ) (steps : List ℕ) (r : ℕ) (c : Chain) : Type 0 where
  pub rests : (E : List Claim) → inside E x y ≡ false → tell f K P k E x y ≡ resting_on (tell f K P c.number) E r x y c.from (take c.len steps) c.to
  pub lower : c.number < k
  pub from-small : c.from < 65536
  pub to-small : c.to < 65536
  pub steps-small : (i : ℕ) → get_or steps i 0 < 65536
  pub short : c.len ≤ RECORDS

abbrev pub RestsOn : Frame → Table → Table → ℕ → ℕ → ℕ → List ℕ → ℕ → Option Chain → Type 0
RestsOn f K P k x y steps r None = (E : List Claim) → inside E x y ≡ false → tell f K P k E x y ≡ record { rule = r; from = x; to = y; rests = [] } ∷ []
RestsOn f K P k x y steps r (Some c) = Resting f K P k x y steps r c
