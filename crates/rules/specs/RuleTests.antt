-- The rules as tests. Each says what the notion of its name says; proofs/RuleTests.antt shows it.
--
--   writer? f S L         == S writes L's address, and is not L
--   source? f S L         == S is L's source
--   first? f S L          == L reads its address's first value, and S writes that address
--   rules f K P C x y     == the tests of rules 0 to 8, where rule 0 gives nothing
--   gives? f K P C x y r  == rule r gives the edge x, y, where C are the chains of the round before
use Rattle.std.specs.Prelude.{Bool, false, not, ◌&&◌, List, [], ◌∷◌, ℕ, eqb, get_or}
use Rattle.laws.specs.Tests.{any}
use Rattle.laws.specs.Relation.{Table}
use Rattle.rules.specs.Frame.{Frame}

unfoldable pub writer? : Frame → ℕ → ℕ → Bool
writer? f S L = f.writes S && eqb (f.address S) (f.address L) && not (eqb S L)

unfoldable pub source? : Frame → ℕ → ℕ → Bool
source? f S L = writer? f S L && f.reads L && eqb (f.read L) (f.written S) && not (eqb (f.read L) (f.first (f.address L)))

unfoldable pub first? : Frame → ℕ → ℕ → Bool
first? f S L = writer? f S L && f.reads L && eqb (f.read L) (f.first (f.address L))

unfoldable pub rules : Frame → Table → Table → Table → ℕ → ℕ → List Bool
rules f K P C x y =
    false
    ∷ K x y
    ∷ (source? f x y && not (f.earlier x y))
    ∷ any f.records (λ L. source? f y L && writer? f x L && not (eqb x y) && f.earlier x L)
    ∷ first? f y x
    ∷ (first? f x y && f.earlier x y)
    ∷ any f.records (λ L. source? f y L && writer? f x L && not (eqb x y) && C x L)
    ∷ any f.records (λ S. source? f S x && writer? f y x && not (eqb y S) && C S y)
    ∷ P x y
    ∷ []

unfoldable pub gives? : Frame → Table → Table → Table → ℕ → ℕ → ℕ → Bool
gives? f K P C x y r = get_or (rules f K P C x y) r false
