-- What the small reader keeps of a branch, and where a row of entries leads.
--
--   branch_of from to n         == the first n entries of the arrays, as a branch
--   link_of E is                == from where to where the entries is of E lead, if they do
--   link_joins l                == the one pair that the link joins, if both are numbers of records
--   latest_of other n           == one past the latest of n entries that is a split with its other side left, or 0
--   linked l x y               == the link is one from x to y
--   others_of from to other n    == the branches still to close beside that of n entries: the other side of each open split, the latest first
--   goals_of from to other n    == the branch of n entries and these
--   stack_of from to other n     == the branch of n entries and these; none where n is 0
--   branch_after f K r from to other es == what is left to check once an entry has been taken: the rest es closes the branches that are left
--   went r                     == how many entries the branch goes on with; 0 where it does not
--   Taken                      == taking the entry e leaves that, and the branch has at most BRANCH entries
use Rattle.std.specs.Prelude.{◌≡◌, Bool, true, false, ◌&&◌, List, [], ◌∷◌, ℕ, zero, suc, ◌≤◌, eqb, ltb, get_or, Option, Some, None}
use Rattle.std.proofs.Math.Option.{none, some}
use Rattle.std.proofs.Math.Option as led
use Rattle.laws.specs.Relation.{Table}
use Rattle.laws.specs.ListOf.{row}
use Rattle.rules.specs.Frame.{Frame}
use Rattle.trace.specs.Bounds.{RECORDS}
use Rattle.papers.specs.Paper.{Claim, Entry, BRANCH, edge_at, named, leads, refutes}
use Rattle.papers.specs.declared.reading.Turn.{Turn}
use Rattle.papers.specs.declared.reading.Turn.TheVariants.{Goes, Closed, Wrong}

unfoldable pub branch_of : List ℕ → List ℕ → ℕ → List Claim
branch_of from to n = row (λ i. record { from = get_or from i 0; to = get_or to i 0 }) 0 n

abbrev pub between : ℕ → led.Option ℕ → Option (ℕ × ℕ)
between a (some b) = Some (a, b)
between a none = None

unfoldable pub link_of : List Claim → List ℕ → Option (ℕ × ℕ)
link_of E [] = None
link_of E (i ∷ is) = between (edge_at E i).from (leads E (i ∷ is) (edge_at E i).from)

unfoldable pub link_joins : Option (ℕ × ℕ) → Table
link_joins (Some (a, b)) x y = (ltb a RECORDS && ltb b RECORDS) && (eqb x a && eqb y b)
link_joins None x y = false

unfoldable pub linked : Option (ℕ × ℕ) → Table
linked (Some (a, b)) x y = eqb a x && eqb b y
linked None x y = false

unfoldable pub latest_of : List ℕ → ℕ → ℕ
latest_of other zero = 0
latest_of other (suc i) = elim (eqb (get_or other i 0) 1) [ true ↦ suc i | false ↦ latest_of other i ]

unfoldable pub others_of : List ℕ → List ℕ → List ℕ → ℕ → List (List Claim)
others_of from to other zero = []
others_of from to other (suc i) = elim (eqb (get_or other i 0) 1) [
  | true ↦ named (branch_of from to i) (get_or to i 0) (get_or from i 0) ∷ others_of from to other i
  | false ↦ others_of from to other i
]

unfoldable pub stack_of : List ℕ → List ℕ → List ℕ → ℕ → List (List Claim)
stack_of from to other zero = []
stack_of from to other (suc i) = branch_of from to (suc i) ∷ others_of from to other (suc i)

abbrev pub goals_of : List ℕ → List ℕ → List ℕ → ℕ → List (List Claim)
goals_of from to other n = branch_of from to n ∷ others_of from to other n

unfoldable pub branch_after : Frame → Table → Turn → List ℕ → List ℕ → List ℕ → List Entry → Bool
branch_after f K (Goes n) from to other es = refutes f K (goals_of from to other n) es
branch_after f K Closed from to other es = refutes f K [] es
branch_after f K Wrong from to other es = false

unfoldable pub went : Turn → ℕ
went (Goes n) = n
went Closed = 0
went Wrong = 0

pub record Taken (f : Frame) (K : Table) (from to other : List ℕ) (n : ℕ) (e : Entry) (r : Turn) (from' to' other' : List ℕ) : Type 0 where
  pub rest : (es : List Entry) → refutes f K (goals_of from to other n) (e ∷ es) ≡ branch_after f K r from' to' other' es
  pub short : went r ≤ BRANCH
