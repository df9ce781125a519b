-- A word of the rows that takes over the bits of another.
--
--   or_of rows w m == the rows, where word w has the bits of m too
--   or_long       == as many words as before
--   set_words, or-words == words stay words, where one is set and where one takes over bits
--   or-bits       == the words, bit by bit
use mathlib.Core.Path.{◌≡◌, refl}
use mathlib.Core.Logic.{inl, inr}
use mathlib.Core.Bool.{◌||◌, ◌&&◌, or-false}
use mathlib.Core.List.{List}
use Prim.Native.Nat.{ℕ, ◌^◌, ◌<◌}
use native.Mathlib.Decide.{dec_lt}
use native.Mathlib.Omega.{arith}
use lib.Bits.{bit_or, or_lt}
use lib.Dec.{eqb}
use lib.ListN.{length, get_or, set, length-set}
use lib.Seq.{get_or-set_same, get_or-set_other, set_out}
use Rattle.laws.specs.Bits.{bit_of}
use Rattle.laws.proofs.Bits.{bit_of-or}
use Rattle.laws.proofs.Tests.{off, so-eq, eq?}
use Rattle.rows.specs.Bounds.{WIDTH}
use Rattle.rows.specs.Rows.{Words}

-- one word is set
pub set_words : (rows : List ℕ) → Words rows → (w v : ℕ) → v < 2 ^ WIDTH → Words (set rows w v)
set_words rows words w v small i = elim (eq? i w) [
  | inl e ↦ rw e (elim (dec_lt w (length rows)) [ yes l ↦ rw (get_or-set_same rows w v 0 l) small | no l ↦ rw (set_out rows w v (omega arith)) (words w) ])
  | inr d ↦ rw (get_or-set_other rows w i v 0 d) (words i)
]

abbrev pub or_of : List ℕ → ℕ → ℕ → List ℕ
or_of rows w m = set rows w (bit_or (get_or rows w 0) m)

module _ (rows : List ℕ) (w m : ℕ) where
  pub or_long : length (or_of rows w m) ≡ length rows
  or_long = length-set rows w _

  pub or-words : m < 2 ^ WIDTH → Words rows → Words (or_of rows w m)
  or-words small words = set_words rows words w (bit_or (get_or rows w 0) m) (or_lt WIDTH (get_or rows w 0) m (words w) small)

  pub or-bits : w < length rows → (i j : ℕ) → bit_of (get_or (or_of rows w m) i 0) j ≡ (bit_of (get_or rows i 0) j || (eqb i w && bit_of m j))
  or-bits l i j = elim (eq? i w) [
    | inl e ↦ rw (e, get_or-set_same rows w (bit_or (get_or rows w 0) m) 0 l, bit_of-or, (so-eq {m = w} {n = w}).1 refl) refl
    | inr d ↦ rw (get_or-set_other rows w i (bit_or (get_or rows w 0) m) 0 d, off (λ t. d (so-eq.0 t)), or-false) refl
  ]
