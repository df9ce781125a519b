-- Digits of given ranges packed into words, the first digit least. A new word starts where the product of the ranges would pass LIMIT.
-- In each definition p is the product of the ranges of the open word so far, and the list of words begins with what is left of the open word.
--
--   LIMIT            == 2 to the 64th
--   onto d r ws      == a digit of range r in front of the open word
--   least r ws       == the least digit of the open word, of range r
--   rest r ws        == the words without it
--   next_words ws     == the words behind the open one
--   words_from p rs   == how many words the ranges take, the open one counted
--   pack_from p rs ds == the words of the digits
--   take_from p rs ws == the digits of the words
--   words_of, packed, taken == the same of a thread, which has no word where it has no loads
use Rattle.std.specs.Prelude.{cond, List, [], ◌∷◌, ℕ, suc, ◌+◌, ◌*◌, ◌/◌, ◌%◌, leb}

abbrev pub LIMIT : ℕ
LIMIT = 18446744073709551616

abbrev pub onto : ℕ → ℕ → List ℕ → List ℕ
onto d r [] = []
onto d r (w ∷ ws) = (d + r * w) ∷ ws

abbrev pub least : ℕ → List ℕ → ℕ
least r [] = 0
least r (w ∷ ws) = w % r

abbrev pub rest : ℕ → List ℕ → List ℕ
rest r [] = []
rest r (w ∷ ws) = (w / r) ∷ ws

abbrev pub next_words : List ℕ → List ℕ
next_words [] = []
next_words (w ∷ ws) = ws

unfoldable pub words_from : ℕ → List ℕ → ℕ
words_from p [] = 1
words_from p (r ∷ rs) = cond (leb (p * r) LIMIT) (words_from (p * r) rs) (suc (words_from r rs))

unfoldable pub pack_from : ℕ → List ℕ → List ℕ → List ℕ
pack_from p [] ds = 0 ∷ []
pack_from p (r ∷ rs) [] = []
pack_from p (r ∷ rs) (d ∷ ds) = cond (leb (p * r) LIMIT) (onto d r (pack_from (p * r) rs ds)) (0 ∷ onto d r (pack_from r rs ds))

unfoldable pub take_from : ℕ → List ℕ → List ℕ → List ℕ
take_from p [] ws = []
take_from p (r ∷ rs) ws = cond (leb (p * r) LIMIT) (least r ws ∷ take_from (p * r) rs (rest r ws)) (least r (next_words ws) ∷ take_from r rs (rest r (next_words ws)))

abbrev pub words_of : List ℕ → ℕ
words_of [] = 0
words_of (r ∷ rs) = words_from r rs

abbrev pub packed : List ℕ → List ℕ → List ℕ
packed [] ds = []
packed (r ∷ rs) [] = []
packed (r ∷ rs) (d ∷ ds) = onto d r (pack_from r rs ds)

abbrev pub taken : List ℕ → List ℕ → List ℕ
taken [] ws = []
taken (r ∷ rs) ws = least r ws ∷ take_from r rs (rest r ws)
