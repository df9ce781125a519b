-- One pair added to a relation that is closed under chains.
--
--   Upto C a x     == x is a, or C leads from x to a
--   From C b y     == y is b, or C leads from b to y
--   Span C a b     == all that the pair a, b then joins: from a and what leads to it, to b and what it leads to
--   Plus C a b     == C and the pair a, b
--   Joined C a b   == C and the span of a, b: one turn of a closing that adds pair by pair
--   SelfLed C      == C leads from a number to itself
--   Turned C       == C the other way round: a table of what comes before, for one of what comes after
use Rattle.std.specs.Prelude.{◌≡◌, ◌⊎◌, ℕ}
use Rattle.laws.specs.Relation.{Rel}

abbrev pub Upto : Rel → ℕ → ℕ → Type 0
Upto C a x = (x ≡ a) ⊎ C x a

abbrev pub From : Rel → ℕ → ℕ → Type 0
From C b y = (y ≡ b) ⊎ C b y

abbrev pub Span : Rel → ℕ → ℕ → Rel
Span C a b x y = Upto C a x × From C b y

abbrev pub Plus : Rel → ℕ → ℕ → Rel
Plus C a b x y = C x y ⊎ ((x ≡ a) × (y ≡ b))

abbrev pub Joined : Rel → ℕ → ℕ → Rel
Joined C a b x y = C x y ⊎ Span C a b x y

abbrev pub SelfLed : Rel → Type 0
SelfLed C = (x : ℕ) × C x x

abbrev pub Turned : Rel → Rel
Turned C x y = C y x
