-- A template is a line in which a hole stands for each number.
--
--   HOLE              == the byte that marks a number's place
--   NUMBERS           == how many numbers stand behind a thread at the most
--   fill ts ns        == the line that a template gives with the numbers ns
--   Hit               == the numbers that were found, or that the line is another
--   found ts text     == the numbers with which the template gives the text
--   step_at t text at == one byte of a template against a place: the number that a hole takes, 0 for any other byte, and where it ends
--   fitted ts text    == the numbers found as the code holds them: cut, unused places 0
use Rattle.std.specs.Prelude.{Bool, false, cond, List, [], ◌∷◌, ◌++◌, map, ℕ, ◌+◌, eqb, length, get_or, drop, replicate, Option, Some, None}
use Rattle.std.proofs.lemmas.List.Edits.{sets}
use Rattle.text.specs.Number.{digits, value, is_number, decimal, cut, number_at, run}
use Rattle.text.specs.declared.Run.{Run}

abbrev pub HOLE : ℕ
HOLE = 0x23

abbrev pub NUMBERS : ℕ
NUMBERS = 4

unfoldable pub fill : List ℕ → List ℕ → List ℕ
fill [] ns = []
fill (t ∷ ts) ns = cond (eqb t HOLE) (decimal (get_or ns 0 0) ++ fill ts (drop 1 ns)) (t ∷ fill ts ns)

pub data Hit : Type 0 where
  hit : List ℕ → Hit
  miss : Hit

-- one number more, in front
abbrev pub also : ℕ → Hit → Hit
also n (hit ns) = hit (n ∷ ns)
also n miss = miss

-- the text begins with the byte
unfoldable pub begins : ℕ → List ℕ → Bool
begins t [] = false
begins t (b ∷ bs) = eqb b t

-- a hole takes all digits that follow; any other byte stands for itself; nothing may be left over
unfoldable pub found : List ℕ → List ℕ → Hit
found [] text = cond (eqb (length text) 0) (hit []) miss
found (t ∷ ts) text =
    cond (eqb t HOLE)
    (cond (is_number (digits text)) (also (value 0 (digits text)) (found ts (drop (length (digits text)) text))) miss)
    (cond (begins t text) (found ts (drop 1 text)) miss)

unfoldable pub step_at : ℕ → List ℕ → ℕ → Option Run
step_at t text at = cond (eqb t HOLE) (number_at text at) (cond (begins t (drop at text)) (Some (run 0 (at + 1))) None)

-- numbers put into places from the n-th on
abbrev pub fit_from : ℕ → List ℕ → Hit → Option (List ℕ)
fit_from n places (hit ns) = Some (sets places n (map cut ns))
fit_from n places miss = None

unfoldable pub fitted : List ℕ → List ℕ → Option (List ℕ)
fitted ts text = fit_from 0 (replicate NUMBERS 0) (found ts text)
