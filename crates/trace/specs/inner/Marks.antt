-- Marks of what was written: a bit for each value at an address, which other values share.
--
--   MARKWIDTH, MARKWORDS == how many bits a word of marks has, and how many words an address
--   MARKS                == how many words the marks of all addresses have
--   mark_place a v        == which word has the mark of the value v at address a
--   has_mark marks a v    == that mark is set
--   with_mark marks a v   == the marks with that one set
--   note_of marks o       == the marks with that of what o writes set, if it writes
--   Marks t n marks      == every value that one of the first n records wrote is marked at its address
use Rattle.std.specs.Prelude.{◌≡◌, Bool, cond, List, ℕ, ◌+◌, ◌*◌, ◌/◌, ◌%◌, ◌^◌, ◌<◌, length, get_or, set}
use Rattle.std.proofs.Math.Bool.{So}
use Rattle.std.specs.Int.Bits.{bit_or}
use Rattle.laws.specs.Bits.{bit_of}
use Rattle.trace.specs.Bounds.{ADDRESSES}
use Rattle.trace.specs.Op.{address, written, writes}
use Rattle.trace.specs.Trace.{at}
use Rattle.trace.specs.declared.Op.{Op}
use Rattle.trace.specs.declared.Trace.{Trace}

abbrev pub MARKWIDTH : ℕ
MARKWIDTH = 64

abbrev pub MARKWORDS : ℕ
MARKWORDS = 4

abbrev pub MARKS : ℕ
MARKS = ADDRESSES * MARKWORDS

abbrev pub mark_place : ℕ → ℕ → ℕ
mark_place a v = a * MARKWORDS + v / MARKWIDTH % MARKWORDS

unfoldable pub has_mark : List ℕ → ℕ → ℕ → Bool
has_mark marks a v = bit_of (get_or marks (mark_place a v) 0) (v % MARKWIDTH)

unfoldable pub with_mark : List ℕ → ℕ → ℕ → List ℕ
with_mark marks a v = set marks (mark_place a v) (bit_or (get_or marks (mark_place a v) 0) (2 ^ (v % MARKWIDTH)))

unfoldable pub note_of : List ℕ → Op → List ℕ
note_of marks o = cond (writes o) (with_mark marks (address o) (written o)) marks

pub record Marks (t : Trace) (n : ℕ) (marks : List ℕ) : Type 0 where
  pub long : length marks ≡ MARKS
  pub each : (j : ℕ) → j < n → So (writes (at t j)) → So (has_mark marks (address (at t j)) (written (at t j)))
