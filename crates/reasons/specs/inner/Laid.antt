-- Numbers laid into lent memory, from a place on.
--
--   PutAt limit before at ws after r == the numbers ws stand from the place at on, as far as there are places, the rest is as it was, and r tells the place after
--                                       them; or they pass the limit
--   EntriesTold limit from to out n at es from' to' out' r == the entries es are laid, and named in the branch of the first n places of from and to; r tells how many
--                                       entries it then has and the place after them. Or they pass the limit, or the longest branch
--   Done                             == the first of these
use Rattle.std.specs.Prelude.{◌≡◌, ◌⊎◌, List, ◌++◌, ℕ, ◌+◌, ◌<◌, ◌≤◌, length, Option, Some, None}
use Rattle.std.proofs.lemmas.List.Edits.{sets}
use Rattle.papers.specs.Paper.{BRANCH, Entry, spell}
use Rattle.papers.specs.inner.ReaderBranch.{branch_of}
use Rattle.reasons.specs.Telling.{edges_of}

abbrev pub PutAt : ℕ → List ℕ → ℕ → List ℕ → List ℕ → Option ℕ → Type 0
PutAt limit before at ws after (Some p) = (p ≡ at + length ws) × (p ≤ limit) × (after ≡ sets before at ws)
PutAt limit before at ws after None = limit < at + length ws

pub record Done (limit : ℕ) (from to out : List ℕ) (n at : ℕ) (es : List Entry) (from' to' out' : List ℕ) (m p : ℕ) : Type 0 where
  pub counted : m ≡ n + length es
  pub placed : p ≡ at + length (spell es)
  pub small : m ≤ BRANCH
  pub fits : p ≤ limit
  pub branch : branch_of from' to' m ≡ branch_of from to n ++ edges_of es
  pub laid : out' ≡ sets out at (spell es)

abbrev pub EntriesTold : ℕ → List ℕ → List ℕ → List ℕ → ℕ → ℕ → List Entry → List ℕ → List ℕ → List ℕ → Option (ℕ × ℕ) → Type 0
EntriesTold limit from to out n at es from' to' out' (Some (m, p)) = Done limit from to out n at es from' to' out' m p
EntriesTold limit from to out n at es from' to' out' None = (limit < at + length (spell es)) ⊎ (BRANCH < n + length es)
