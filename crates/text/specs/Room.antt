-- A word put at a place of a lent buffer.
--
--   has_room word out at == from the place on, the buffer is long enough for the word
--   put_at word out at   == the buffer with the word at the place and all other bytes as they were; where there is no room, as it was
--   behind word out at   == the place behind the word; where there is no room, the place itself
use Rattle.std.specs.Prelude.{Bool, cond, List, ℕ, ◌+◌, leb, length}
use Rattle.std.proofs.Math.Seq.{paste}

abbrev pub has_room : List ℕ → List ℕ → ℕ → Bool
has_room word out at = leb (at + length word) (length out)

unfoldable pub put_at : List ℕ → List ℕ → ℕ → List ℕ
put_at word out at = cond (has_room word out at) (paste out at word (length word)) out

unfoldable pub behind : List ℕ → List ℕ → ℕ → ℕ
behind word out at = cond (has_room word out at) (at + length word) at
