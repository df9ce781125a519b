-- A paper: a list of reasons why a trace has no valid order, and when it is accepted. K is any table of kept pairs.
--
--   Claim               == x before y
--   Entry               == a rule, two records and the entries that it rests on, by their numbers: an entry's number is how many entries of its branch
--                          stand before it. Rules 1 to 7 give an edge; SPLIT is two branches, "x before y" and then "y before x"; CLOSE ends a branch
--   BRANCH              == how many entries a branch has at the most: more than a branch that names no edge twice
--   spell es            == the list as numbers: for each entry its rule, x, y, how many entries it rests on, and these
--   edge_at E i          == entry i of the branch E
--   named E x y         == the branch E with one entry more, x before y
--   leads E is x        == where the entries is of E lead from x, each from where the one before it led
--   arrives o y         == that is y
--   chained E is x y    == they are one or more, and lead from x to y
--   branch_room E        == the branch may have one entry more
--   may_rest r k         == an entry of rule r may rest on k entries: only rules 6 and 7 rest on any
--   splits f E e        == the branch E may split by e: on two operations, resting on nothing
--   fits f K E e        == the rule of e gives its edge in the branch E
--   refutes f K Es es   == the list es closes every one of the branches Es, in turn
--   accepted f K es     == it closes the one branch that holds nothing
use Rattle.std.specs.Prelude.{Bool, true, false, not, ◌&&◌, ◌||◌, List, [], ◌∷◌, ◌++◌, ℕ, ◌*◌, eqb, ltb, leb, length, get_or}
use Rattle.std.proofs.Math.Option.{Option, none, some}
use Rattle.laws.specs.Relation.{Table}
use Rattle.trace.specs.Bounds.{RECORDS}
use Rattle.rules.specs.Frame.{Frame}
use Rattle.rules.specs.Rules.{nothing}
use Rattle.rules.specs.RuleTests.{gives?}

abbrev pub CLOSE : ℕ
CLOSE = 0

abbrev pub SPLIT : ℕ
SPLIT = 8

-- the lowest rule that rests on a chain
abbrev pub CHAINED : ℕ
CHAINED = 6

abbrev pub BRANCH : ℕ
BRANCH = RECORDS * RECORDS

pub record Claim : Type 0 where
  pub from : ℕ
  pub to : ℕ

pub record Entry : Type 0 where
  pub rule : ℕ
  pub from : ℕ
  pub to : ℕ
  pub rests : List ℕ

unfoldable pub spell : List Entry → List ℕ
spell [] = []
spell (e ∷ es) = e.rule ∷ e.from ∷ e.to ∷ length e.rests ∷ e.rests ++ spell es

abbrev pub edge_at : List Claim → ℕ → Claim
edge_at E i = get_or E i (record { from = 0; to = 0 })

abbrev pub named : List Claim → ℕ → ℕ → List Claim
named E x y = E ++ record { from = x; to = y } ∷ []

unfoldable pub leads : List Claim → List ℕ → ℕ → Option ℕ
leads E [] x = some x
leads E (i ∷ is) x = elim (ltb i (length E) && eqb (edge_at E i).from x) [ true ↦ leads E is (edge_at E i).to | false ↦ none ]

abbrev pub arrives : Option ℕ → ℕ → Bool
arrives (some z) y = eqb z y
arrives none y = false

unfoldable pub chained : List Claim → List ℕ → Table
chained E [] x y = false
chained E (i ∷ is) x y = arrives (leads E (i ∷ is) x) y

abbrev pub branch_room : List Claim → Bool
branch_room E = ltb (length E) BRANCH

abbrev pub may_rest : ℕ → ℕ → Bool
may_rest r k = leb CHAINED r || eqb k 0

unfoldable pub splits : Frame → List Claim → Entry → Bool
splits f E e = branch_room E && (f.operation e.from && f.operation e.to && not (eqb e.from e.to) && eqb (length e.rests) 0)

-- the chain that the entry rests on is the only one, and no pairs are supposed
unfoldable pub fits : Frame → Table → List Claim → Entry → Bool
fits f K E e = branch_room E && (may_rest e.rule (length e.rests) && gives? f K nothing (chained E e.rests) e.from e.to e.rule)

unfoldable pub refutes : Frame → Table → List (List Claim) → List Entry → Bool
refutes f K [] [] = true
refutes f K [] (e ∷ es) = false
refutes f K (E ∷ Es) [] = false
refutes f K (E ∷ Es) (e ∷ es) =
    elim (eqb e.rule CLOSE) [
      | true ↦ eqb e.from e.to && chained E e.rests e.from e.to && refutes f K Es es
      | false ↦ elim (eqb e.rule SPLIT) [
        | true ↦ splits f E e && refutes f K (named E e.from e.to ∷ named E e.to e.from ∷ Es) es
        | false ↦ fits f K E e && refutes f K (named E e.from e.to ∷ Es) es
      ]
    ]

unfoldable pub accepted : Frame → Table → List Entry → Bool
accepted f K es = refutes f K ([] ∷ []) es
