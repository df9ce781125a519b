-- The list that the writer makes.
--
--   circle_entry, split_entry == the entries that end and split a branch
--   fallen f K E              == what the branch E names is contradicted: by round n * n some round has added nothing
--   held_in f K E x y         == x before y is held in the branch E, which is not contradicted
--   read_from f x             == some load or swap reads from x
--   open? f K E x y           == two writers of one address, one of them read from, held neither way in the branch E
--   falls, falls₂ f K E x y   == a side of the split on x and y closes at once; both sides do
--   first_pair n t            == the first pair below n that passes t, in dictionary order
--   or_pair o p               == o, or p where there is none
--   choose f K E              == the first open pair of which both sides fall, or else the first of which one does, or else the first
--   circle_round f K P        == the first round with a circle
--   closing f K k E s c       == tells the circle of s and then c, of round k, and closes the branch E by it
--   leaf_of f K E             == the same of the circle shown, of the first round that has one
--   paper_of f K m E          == the list for the branch E; m is above what is not held
--   paper f K                 == the list for a trace
use Rattle.std.specs.Prelude.{Bool, true, false, not, ◌&&◌, ◌||◌, List, [], ◌∷◌, ◌++◌, ℕ, zero, suc, ◌*◌, eqb}
use Rattle.std.proofs.Math.Option.{Option, none, some}
use Rattle.laws.specs.Tests.{any}
use Rattle.laws.specs.Relation.{Table}
use Rattle.laws.specs.Lowest.{lowest}
use Rattle.trace.specs.Bounds.{RECORDS}
use Rattle.rules.specs.Frame.{Frame}
use Rattle.rules.specs.RuleTests.{writer?}
use Rattle.rules.specs.ComputedRounds.{chains?, edge?}
use Rattle.pairs.specs.SourceOf.{source_of}
use Rattle.rules.specs.ComputedWalks.{shown?}
use Rattle.papers.specs.Paper.{CLOSE, SPLIT, Claim, Entry, named}
use Rattle.reasons.specs.Telling.{edges_of, inside, numbers, along, tell}

abbrev pub circle_entry : ℕ → List ℕ → Entry
circle_entry x is = record { rule = CLOSE; from = x; to = x; rests = is }

abbrev pub split_entry : ℕ → ℕ → Entry
split_entry x y = record { rule = SPLIT; from = x; to = y; rests = [] }

unfoldable pub fallen : Frame → Table → List Claim → Bool
fallen f K E = any f.records (λ x. chains? f K (inside E) (suc (f.records * f.records)) x x)

unfoldable pub held_in : Frame → Table → List Claim → Table
held_in f K E x y = chains? f K (inside E) (suc (f.records * f.records)) x y && not (fallen f K E)

unfoldable pub read_from : Frame → ℕ → Bool
read_from f x = any RECORDS (λ L. eqb (source_of f L) x)

unfoldable pub open? : Frame → Table → List Claim → Table
open? f K E x y =
    f.writes x && writer? f y x && (read_from f x || read_from f y) && not (held_in f K E x y) && not (held_in f K E y x)

unfoldable pub falls : Frame → Table → List Claim → Table
falls f K E x y = fallen f K (named E x y) || fallen f K (named E y x)

unfoldable pub falls₂ : Frame → Table → List Claim → Table
falls₂ f K E x y = fallen f K (named E x y) && fallen f K (named E y x)

unfoldable pub first_pair : ℕ → Table → Option (ℕ × ℕ)
first_pair n t = elim (lowest (λ x. any n (t x)) n 0) [ some x ↦ elim (lowest (t x) n 0) [ some y ↦ some (x, y) | none ↦ none ] | none ↦ none ]

abbrev pub or_pair : Option (ℕ × ℕ) → Option (ℕ × ℕ) → Option (ℕ × ℕ)
or_pair (some p) o = some p
or_pair none o = o

unfoldable pub choose : Frame → Table → List Claim → Option (ℕ × ℕ)
choose f K E =
    or_pair (first_pair f.records (λ x y. open? f K E x y && falls₂ f K E x y))
    (or_pair (first_pair f.records (λ x y. open? f K E x y && falls f K E x y)) (first_pair f.records (open? f K E)))

unfoldable pub circle_round : Frame → Table → Table → ℕ
circle_round f K P = elim (lowest (λ k. any f.records (λ x. chains? f K P (suc k) x x)) (suc (f.records * f.records)) 0) [ some k ↦ k | none ↦ 0 ]

module _ (f : Frame) (K : Table) where
  unfoldable pub closing : ℕ → List Claim → ℕ → List ℕ → List Entry
  closing k E s zs =
      let es = along (tell f K (inside E) k) E s zs s in
      es ++ circle_entry s (numbers (E ++ edges_of es) s zs s) ∷ []

  unfoldable pub leaf_of : List Claim → List Entry
  leaf_of E = elim (shown? f.records (edge? f K (inside E) (circle_round f K (inside E)))) [
    | some c ↦ elim c [ [] ↦ [] | s ∷ zs ↦ closing (circle_round f K (inside E)) E s zs ]
    | none ↦ []
  ]

  unfoldable pub paper_of : ℕ → List Claim → List Entry
  paper_of zero E = leaf_of E
  paper_of (suc m) E = elim (fallen f K E) [
    | true ↦ leaf_of E
    | false ↦ elim (choose f K E) [
      | some p ↦ split_entry p.0 p.1 ∷ paper_of m (named E p.0 p.1) ++ paper_of m (named E p.1 p.0)
      | none ↦ []
    ]
  ]

abbrev pub paper : Frame → Table → List Entry
paper f K = paper_of f K (suc (f.records * f.records)) []
