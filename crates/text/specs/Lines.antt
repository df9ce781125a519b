-- Lines of a text: bytes up to a line feed or the end.
--
--   Line            == the bytes of a line, and whether a line feed ends it
--   lines text      == all lines of a text, from the top
--   line_len text   == how many bytes stand before the first line feed, or all of them
--   end_at text at  == where the line that starts at a place ends
--   line_at text at == the line at a place, without its line feed; at or past the end, the empty one
--   next_at text at == where the line after it starts; at or past the end it stays
use Rattle.std.specs.Prelude.{Bool, true, false, cond, List, [], ◌∷◌, ℕ, suc, ◌+◌, eqb, leb, ltb, length, take, drop}
use Rattle.text.specs.Bounds.{FEED}

pub record Line : Type 0 where
  pub bytes : List ℕ
  pub ended : Bool

-- a byte in front of the first line
unfoldable pub ahead : ℕ → List Line → List Line
ahead b [] = record { bytes = b ∷ []; ended = false } ∷ []
ahead b (l ∷ ls) = record { bytes = b ∷ l.bytes; ended = l.ended } ∷ ls

unfoldable pub lines : List ℕ → List Line
lines [] = []
lines (b ∷ bs) = cond (eqb b FEED) (record { bytes = []; ended = true } ∷ lines bs) (ahead b (lines bs))

unfoldable pub line_len : List ℕ → ℕ
line_len [] = 0
line_len (b ∷ bs) = cond (eqb b FEED) 0 (suc (line_len bs))

abbrev pub end_at : List ℕ → ℕ → ℕ
end_at text at = at + line_len (drop at text)

abbrev pub line_at : List ℕ → ℕ → List ℕ
line_at text at = take (line_len (drop at text)) (drop at text)

unfoldable pub next_at : List ℕ → ℕ → ℕ
next_at text at = cond (leb (length text) at) at (cond (ltb (end_at text at) (length text)) (end_at text at + 1) (end_at text at))
