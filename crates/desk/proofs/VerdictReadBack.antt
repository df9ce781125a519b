-- An answer about a verdict and its bytes, read back.
--
--   narrow bytes  == numbers of two bytes each, the low byte first
--   told_bytes bytes == how many operations a verdict's bytes tell, and behind it the places of the operations
--   heard a bytes == the verdict that they tell, in document 01's words
use mathlib.Core.Bool.{cond}
use mathlib.Core.List.{List, [], ◌∷◌}
use Prim.Native.Nat.{ℕ, ◌+◌, ◌*◌}
use lib.Dec.{eqb}
use lib.ListN.{get_or, take, drop}
use Rattle.trace.specs.Bounds.{RECORDS}
use Rattle.rules.specs.Verdict.{Verdict, no_source, circle, order, none_left}
use Rattle.desk.specs.AnswerNumbers.{NO-SOURCE, ORDER, CIRCLE}

unfoldable pub narrow : List ℕ → List ℕ
narrow [] = []
narrow (low ∷ []) = []
narrow (low ∷ high ∷ bytes) = (low + 256 * high) ∷ narrow bytes

abbrev pub told_bytes : List ℕ → List ℕ
told_bytes bytes = narrow (take (2 + 2 * RECORDS) bytes)

-- as many as are told
abbrev first_told : List ℕ → List ℕ → List ℕ
first_told bytes xs = take (get_or (told_bytes bytes) 0 0) xs

unfoldable pub heard : ℕ → List ℕ → Verdict
heard a bytes =
    let operations = first_told bytes (drop 1 (told_bytes bytes)) in
    cond (eqb a NO-SOURCE) (no_source (get_or (told_bytes bytes) 1 0))
    (cond (eqb a CIRCLE) (circle operations (first_told bytes (drop (2 + 2 * RECORDS) bytes)))
    (cond (eqb a ORDER) (order operations) none_left))
