-- Circles of an edge relation, and the one that is shown.
--
--   Run E a xs z  == an edge from a to the first of xs, from each to the next, and from the last to z
--   Circle E c    == each of c has an edge to the next, and the last to the first
--   c ⊑ d         == c is shorter than d, or as long and not later in the dictionary
--   Shown E a     == a is the circle shown, or nothing where there is none
--   after c i     == what follows place i of the circle c: the first follows the last
use Rattle.std.specs.Prelude.{◌≡◌, ◌⊎◌, List, [], ◌∷◌, ℕ, suc, ◌<◌, length, get_or}
use Rattle.std.proofs.Math.Option.{Option, none, some}
use Rattle.laws.specs.Relation.{Rel}
use Rattle.laws.specs.Dict.{◌≼◌}

abbrev pub Run : Rel → ℕ → List ℕ → ℕ → Type 0
Run E a [] z = E a z
Run E a (b ∷ bs) z = E a b × Run E b bs z

abbrev pub Circle : Rel → List ℕ → Type 0
Circle E [] = ⊥
Circle E (x ∷ xs) = Run E x xs x

infix 20 ◌⊑◌
abbrev pub ◌⊑◌ : List ℕ → List ℕ → Type 0
◌⊑◌ c d = (length c < length d) ⊎ ((length c ≡ length d) × (c ≼ d))

-- That it is written from its lowest number, and has no number twice, is shown in proofs/Circle.antt: its turns are circles too, and so are its parts.
abbrev pub Shown : Rel → Option (List ℕ) → Type 0
Shown E (some c) = Circle E c × ((d : List ℕ) → Circle E d → c ⊑ d)
Shown E none = (d : List ℕ) → Circle E d → ⊥

abbrev pub after : List ℕ → ℕ → ℕ
after c i = get_or c (suc i) (get_or c 0 0)
