-- Relations on numbers.
--
--   Rel          == a relation
--   Table        == a relation as a test
--   A ⊆ B        == A lies in B
--   Transitive R == what R leads to in two steps it leads to in one
--   Chain E x y  == one or more edges of E in a row lead from x to y
use Rattle.std.specs.Prelude.{Bool, ℕ}

infix 20 ◌⊆◌
abbrev pub Rel : Type 1
Rel = ℕ → ℕ → Type 0

abbrev pub Table : Type 0
Table = ℕ → ℕ → Bool

abbrev pub ◌⊆◌ : Rel → Rel → Type 0
◌⊆◌ A B = (x y : ℕ) → A x y → B x y

unfoldable pub Transitive : Rel → Type 0
Transitive R = (x y z : ℕ) → R x y → R y z → R x z

pub data Chain (E : Rel) : ℕ → ℕ → Type 0 where
  one : {x y : ℕ} → E x y → Chain E x y
  more : {x y z : ℕ} → E x y → Chain E y z → Chain E x z
