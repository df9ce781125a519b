-- Numbers laid into lent memory while the branch grows and is left.
--
--   PutKept limit from to n out at ws from' to' out' r == the numbers ws stand from the place at on, as far as there are places, the rest is as it was, r tells the
--                                                         place after them, and the first n places of from and to are the branch that they were; or they pass the limit
use Rattle.std.specs.Prelude.{◌≡◌, List, ℕ, ◌+◌, ◌<◌, ◌≤◌, length, Option, Some, None}
use Rattle.std.proofs.lemmas.List.Edits.{sets}
use Rattle.papers.specs.inner.ReaderBranch.{branch_of}

abbrev pub PutKept : ℕ → List ℕ → List ℕ → ℕ → List ℕ → ℕ → List ℕ → List ℕ → List ℕ → List ℕ → Option ℕ → Type 0
PutKept limit from to n out at ws from' to' out' (Some p) = (p ≡ at + length ws) × (p ≤ limit) × (out' ≡ sets out at ws) × (branch_of from' to' n ≡ branch_of from to n)
PutKept limit from to n out at ws from' to' out' None = limit < at + length ws
