-- How the writer tells why an edge of some round is forced. K are the kept pairs, P the supposed ones.
--
--   edges_of es          == the edges that the entries es name
--   inside E x y         == an entry of E is x before y
--   entry_place E x y    == the lowest place of such an entry; the length of E where there is none
--   entry_number E x y   == the number of such an entry; 0 where there is none
--   numbers E a zs b     == the numbers of the edges from a by way of zs to b
--   rule_by f K C x y    == the lowest rule that gives the edge, where C are the chains of the round before and no pairs are supposed; 0 where none does
--   rest_load f C x y    == the lowest load that reads from y and that a chain of C leads to from x, x itself excepted
--   rests_from, rests_to k x y == where the chain begins and ends that rule 6 or 7 asks for, by the chains of round k
--   way_at k x y         == the way between them
--   along tell E a zs b  == tells the edges from a by way of zs to b, one after the other, in the branch E
--   bare_entry f K x y   == the entry of an edge that rests on nothing
--   resting tell k E x y == tells the chain of round k that the edge rests on, and then the edge
--   tell k E x y         == tells an edge of round k in the branch E: nothing where it is named; otherwise first what it rests on, if anything
use Rattle.std.specs.Prelude.{true, false, not, cond, ◌&&◌, List, [], ◌∷◌, ◌++◌, ℕ, zero, suc, eqb, ltb, length}
use Rattle.std.proofs.Math.Option.{none, some}
use Rattle.laws.specs.Tests.{any}
use Rattle.laws.specs.Relation.{Table}
use Rattle.laws.specs.Lowest.{lowest}
use Rattle.trace.specs.Bounds.{RECORDS}
use Rattle.rules.specs.Frame.{Frame}
use Rattle.rules.specs.Rules.{nothing}
use Rattle.rules.specs.ComputedRounds.{chains?, edge?}
use Rattle.pairs.specs.SourceOf.{source_of}
use Rattle.rules.specs.ShownCircle.{rule?}
use Rattle.papers.specs.Paper.{Claim, Entry, edge_at}
use Rattle.reasons.specs.Ways.{way_of}

unfoldable pub edges_of : List Entry → List Claim
edges_of [] = []
edges_of (e ∷ es) = record { from = e.from; to = e.to } ∷ edges_of es

unfoldable pub inside : List Claim → Table
inside E x y = any (length E) (λ i. eqb (edge_at E i).from x && eqb (edge_at E i).to y)

unfoldable pub entry_place : List Claim → ℕ → ℕ → ℕ
entry_place E x y = elim (lowest (λ i. eqb (edge_at E i).from x && eqb (edge_at E i).to y) (length E) 0) [ some i ↦ i | none ↦ length E ]

unfoldable pub entry_number : List Claim → ℕ → ℕ → ℕ
entry_number E x y = cond (ltb (entry_place E x y) (length E)) (entry_place E x y) 0

unfoldable pub numbers : List Claim → ℕ → List ℕ → ℕ → List ℕ
numbers E a [] b = entry_number E a b ∷ []
numbers E a (z ∷ zs) b = entry_number E a z ∷ numbers E z zs b

unfoldable pub along : (List Claim → ℕ → ℕ → List Entry) → List Claim → ℕ → List ℕ → ℕ → List Entry
along tell E a [] b = tell E a b
along tell E a (z ∷ zs) b = let es = tell E a z in es ++ along tell (E ++ edges_of es) z zs b

unfoldable pub rule_by : Frame → Table → Table → ℕ → ℕ → ℕ
rule_by f K C x y = rule? f K nothing C x y

unfoldable pub rest_load : Frame → Table → ℕ → ℕ → ℕ
rest_load f C x y = elim (lowest (λ L. C x L && eqb (source_of f L) y && not (eqb x L)) RECORDS 0) [ some L ↦ L | none ↦ RECORDS ]

abbrev pub bare_entry : Frame → Table → ℕ → ℕ → Entry
bare_entry f K x y = record { rule = rule_by f K nothing x y; from = x; to = y; rests = [] }

module _ (f : Frame) (K P : Table) where
  -- rule 6 asks for a chain from x to a load that reads from y, rule 7 for one from x's source to y
  unfoldable pub rests_from : ℕ → ℕ → ℕ → ℕ
  rests_from k x y = cond (eqb (rule_by f K (chains? f K P (suc k)) x y) 6) x (source_of f x)

  unfoldable pub rests_to : ℕ → ℕ → ℕ → ℕ
  rests_to k x y = cond (eqb (rule_by f K (chains? f K P (suc k)) x y) 6) (rest_load f (chains? f K P (suc k)) x y) y

  unfoldable pub way_at : ℕ → ℕ → ℕ → List ℕ
  way_at k x y = way_of (edge? f K P k) (chains? f K P (suc k)) RECORDS (rests_from k x y) (rests_to k x y)

  -- k is the round before
  unfoldable pub resting : (List Claim → ℕ → ℕ → List Entry) → ℕ → List Claim → ℕ → ℕ → List Entry
  resting tell k E x y =
      let es = along tell E (rests_from k x y) (way_at k x y) (rests_to k x y) in
      es ++ record { rule = rule_by f K (chains? f K P (suc k)) x y; from = x; to = y; rests = numbers (E ++ edges_of es) (rests_from k x y) (way_at k x y) (rests_to k x y) } ∷ []

  unfoldable pub tell : ℕ → List Claim → ℕ → ℕ → List Entry
  tell zero E x y = elim (inside E x y) [ true ↦ [] | false ↦ bare_entry f K x y ∷ [] ]
  tell (suc k) E x y = elim (inside E x y) [
    | true ↦ []
    | false ↦ elim (eqb (rule_by f K nothing x y) 0) [
      | true ↦ elim (edge? f K P k x y) [ true ↦ tell k E x y | false ↦ resting (tell k) k E x y ]
      | false ↦ bare_entry f K x y ∷ []
    ]
  ]
