-- Marks of what was written.
--
--   mark-long            == as many words as before
--   mark-own, mark-keeps == a mark that is set is set, and so are those that were
--   marks-none           == before the first record no mark is wanted
--   marks-more           == with what the next record writes noted, that record is marked too
--   unmarked             == a value without a mark was not written before
--   follows-unmarked     == so it is enough that it is not the first one
use mathlib.Core.Path.{◌≡◌, refl, sym, ap₂, ◌∙◌}
use mathlib.Core.Logic.{inl, inr}
use mathlib.Core.Bool.{Bool, true, false, not, So, false≢true, cond, or-true, and-true}
use mathlib.Core.List.{List}
use Prim.Native.Nat.{ℕ, ◌+◌, ◌%◌, ◌^◌, ◌<◌}
use native.Mathlib.Omega.{arith}
use borrow.Author.Tests.{eq-eqb}
use lib.Bits.{bit_or}
use lib.Dec.{eqb}
use lib.ListN.{length, get_or, replicate, length-set}
use lib.Seq.{get_or-set_same, get_or-set_other}
use Rattle.laws.proofs.Bits.{bit_of-or, bit_of-power}
use Rattle.laws.proofs.Tests.{off, eq?}
use Rattle.trace.specs.Bounds.{ADDRESSES}
use Rattle.trace.specs.Op.{address, written, writes}
use Rattle.trace.specs.Trace.{at, first}
use Rattle.trace.specs.WellFormed.{bounded, written_before, fresh, follows}
use Rattle.trace.specs.inner.Marks.{MARKWIDTH, MARKS, mark_place, has_mark, with_mark, note_of, Marks}
use Rattle.trace.specs.declared.Op.{Op}
use Rattle.trace.specs.declared.Trace.{Trace}
use Rattle.trace.proofs.WellFormed.{bounded-iff, written-before-iff}

module _ (marks : List ℕ) (a v : ℕ) where
  pub mark-long : length (with_mark marks a v) ≡ length marks
  unfolding with_mark
  mark-long = length-set marks (mark_place a v) _

  module _ (within : mark_place a v < length marks) where
    pub mark-own : So (has_mark (with_mark marks a v) a v)
    unfolding with_mark has_mark
    mark-own = rw (get_or-set_same marks (mark_place a v) (bit_or (get_or marks (mark_place a v) 0) (2 ^ (v % MARKWIDTH))) 0 within, bit_of-or, bit_of-power, eq-eqb (v % MARKWIDTH) (v % MARKWIDTH) refl, or-true) refl

    pub mark-keeps : (b w : ℕ) → So (has_mark marks b w) → So (has_mark (with_mark marks a v) b w)
    unfolding with_mark has_mark
    mark-keeps b w s = elim (eq? (mark_place b w) (mark_place a v)) [
      | inl e ↦ rw (e, get_or-set_same marks (mark_place a v) (bit_or (get_or marks (mark_place a v) 0) (2 ^ (v % MARKWIDTH))) 0 within, bit_of-or, (rw e at s)) refl
      | inr d ↦ rw (get_or-set_other marks (mark_place a v) (mark_place b w) (bit_or (get_or marks (mark_place a v) 0) (2 ^ (v % MARKWIDTH))) 0 d) s
    ]

-- the word of a mark is among those of all addresses
pub place_in : (marks : List ℕ) (a v : ℕ) → length marks ≡ MARKS → a < ADDRESSES → mark_place a v < length marks
place_in marks a v l h = omega arith

pub marks-none : (t : Trace) → Marks t 0 (replicate MARKS 0)
marks-none t = record { long = refl; each = λ j h s. absurd (omega arith) }

module _ (t : Trace) (n : ℕ) (marks : List ℕ) (m : Marks t n marks) where
  pub marks-more : So (bounded (at t n)) → Marks t (n + 1) (note_of marks (at t n))
  unfolding note_of
  marks-more keeps = go (writes (at t n)) refl
    where
      within : mark_place (address (at t n)) (written (at t n)) < length marks
      within = place_in marks (address (at t n)) (written (at t n)) m.long ((bounded-iff (at t n)).0 keeps).address_below

      go : (b : Bool) → writes (at t n) ≡ b → Marks t (n + 1) (cond b (with_mark marks (address (at t n)) (written (at t n))) marks)
      go true e =
          record {
            long = mark-long marks (address (at t n)) (written (at t n)) ∙ m.long;
            each = λ j h s. elim (eq? j n) [
              | inl q ↦ rw q (mark-own marks (address (at t n)) (written (at t n)) within)
              | inr d ↦ mark-keeps marks (address (at t n)) (written (at t n)) within (address (at t j)) (written (at t j)) (m.each j (omega arith) s)
            ];
          }
      go false e =
          record {
            long = m.long;
            each = λ j h s. elim (eq? j n) [ inl q ↦ absurd (false≢true (sym e ∙ (rw q at s))) | inr d ↦ m.each j (omega arith) s ];
          }

  pub unmarked : (a v : ℕ) → has_mark marks a v ≡ false → written_before t n a v ≡ false
  unmarked a v e = off (λ s. let w = (written-before-iff t n a v).0 s in false≢true (sym e ∙ sym (ap₂ (has_mark marks) w.2.there w.2.value) ∙ m.each w.0 w.1 w.2.does))

  pub follows-unmarked : (o : Op) → So (bounded o) → So (writes o) → has_mark marks (address o) (written o) ≡ false → follows t n o ≡ not (eqb (written o) (first t (address o)))
  unfolding follows fresh
  follows-unmarked o keeps does e = simp (keeps, does, unmarked (address o) (written o) e, and-true)
