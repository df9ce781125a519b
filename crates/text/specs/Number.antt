-- Decimal numbers of any length.
--
--   is_digit b      == b is a digit
--   digits text     == the digits that a text begins with
--   value a ds      == the number that the digits ds write behind the number a
--   is_number ds    == the digits are a number: one at least, and only 0 itself begins with 0
--   decimal n       == the digits of n
--   cut n           == n, or the first number past every bound where n is past it
--   run_at text at  == the digits at a place as the code holds them: their value, cut, and where they end
--   run n end       == the digits that are n and end there
--   number_at text at == the number at a place, cut, and where it ends
use Rattle.std.specs.Prelude.{Bool, true, false, cond, List, [], ◌∷◌, ◌++◌, ℕ, zero, suc, ◌+◌, ◌*◌, ◌-◌, ◌/◌, ◌%◌, min, eqb, ltb, length, drop, Option, Some, None}
use Rattle.trace.specs.Bounds.{VALUES}
use Rattle.text.specs.Class.{within}
use Rattle.text.specs.declared.Run.{Run}

abbrev pub is_digit : ℕ → Bool
is_digit b = within 48 57 b

unfoldable pub digits : List ℕ → List ℕ
digits [] = []
digits (b ∷ bs) = cond (is_digit b) (b ∷ digits bs) []

unfoldable pub value : ℕ → List ℕ → ℕ
value a [] = a
value a (d ∷ ds) = value (a * 10 + (d - 48)) ds

unfoldable pub is_number : List ℕ → Bool
is_number [] = false
is_number (d ∷ []) = true
is_number (d ∷ e ∷ ds) = cond (eqb d 48) false true

-- the first argument only bounds how many digits are written: n digits are enough for n
unfoldable pub decimal_by : ℕ → ℕ → List ℕ
decimal_by zero n = (48 + n) ∷ []
decimal_by (suc k) n = elim (ltb n 10) [ true ↦ (48 + n) ∷ [] | false ↦ decimal_by k (n / 10) ++ ((48 + n % 10) ∷ []) ]

abbrev pub decimal : ℕ → List ℕ
decimal n = decimal_by n n

abbrev pub cut : ℕ → ℕ
cut n = min VALUES n

abbrev pub run_at : List ℕ → ℕ → Run
run_at text at = record { value = cut (value 0 (digits (drop at text))); end = at + length (digits (drop at text)) }

abbrev pub run : ℕ → ℕ → Run
run n end = record { value = n; end = end }

unfoldable pub number_at : List ℕ → ℕ → Option Run
number_at text at =
    cond (is_number (digits (drop at text))) (Some (run (cut (value 0 (digits (drop at text)))) (at + length (digits (drop at text))))) None
