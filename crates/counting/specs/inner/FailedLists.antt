-- The memory of the counted search: in each slot the two sets of a list that failed, and the steps below it. It may forget.
--
--   LISTS               == how many lists it has room for
--   list_slot memory s  == the set in slot s
--   Put memory h set next == next is the memory with the set in slot h
--   Recalled f K sets serves counts == what each slot says is so
use Rattle.std.specs.Prelude.{◌≡◌, ◌≢◌, List, ℕ, ◌*◌, ◌<◌, length, get_or, take, drop}
use Rattle.laws.specs.Relation.{Table}
use Rattle.rules.specs.Frame.{Frame}
use Rattle.rows.specs.Bounds.{WORDS}
use Rattle.rows.specs.Rows.{bit}
use Rattle.plain.specs.inner.Remembered.{Remembered}

abbrev pub LISTS : ℕ
LISTS = 4093

unfoldable pub list_slot : List ℕ → ℕ → List ℕ
list_slot memory s = take WORDS (drop (s * WORDS) memory)

pub record Put (memory : List ℕ) (h : ℕ) (set next : List ℕ) : Type 0 where
  pub long : length next ≡ length memory
  pub here : list_slot next h ≡ set
  pub other : (s : ℕ) → s ≢ h → list_slot next s ≡ list_slot memory s

abbrev pub Recalled : Frame → Table → List ℕ → List ℕ → List ℕ → Type 0
Recalled f K sets serves counts = (s : ℕ) → s < LISTS → Remembered f K (bit (list_slot sets s) 0) (bit (list_slot serves s) 0) (get_or counts s 0)
