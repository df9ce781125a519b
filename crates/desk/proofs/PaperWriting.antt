-- A paper that is asked for over a text, laid behind its length.
--
--   front-set                   == two numbers stored in front
--   unshown-written, shown-written == what is promised where no list is shown, and where one is
--   asked-one                   == no second answer, and no second state of the numbers
use mathlib.Core.Path.{◌≡◌, refl, sym, ap, ap₂, ◌∙◌, subst}
use mathlib.Core.Bool.{Bool, true, false, cond, false≢true}
use mathlib.Core.List.{List, [], ◌∷◌, ◌++◌, append-nil}
use Prim.Native.Nat.{ℕ, ◌-◌, ◌≤◌}
use native.Mathlib.Omega.{arith}
use lib.ListN.{length, set, take, drop, drop_of_length-le, length-drop}
use lib.Seq.{take_all, drop_at, length-take-le}
use Rattle.trace.specs.declared.Trace.{Trace}
use Rattle.reasons.specs.Writes.{Writes}
use Rattle.reasons.specs.declared.listing.Reason.{Reason}
use Rattle.reasons.specs.declared.listing.Reason.TheVariants.{NoModel, NotWellFormed, TooLong}
use Rattle.std.specs.Prelude.{Option, Some, None, Result, Ok, Err}
use Rattle.desk.specs.AnswerNumbers.{SHOWN}
use Rattle.reasons.proofs.Unique.{writes_one}
use Rattle.reader.specs.Whole.{read_whole}
use Rattle.desk.specs.PaperWritten.{LIST, listed_number, list_shown?, length_of, halves, length_front, PaperWritten, PaperAsked}
use Rattle.desk.proofs.Ranked.{ranked-one}

pub front-set : (b : List ℕ) (x y : ℕ) → LIST ≤ length b → set (set b 0 x) 1 y ≡ x ∷ y ∷ drop LIST b
front-set (u ∷ v ∷ b) x y h = refl
front-set (u ∷ []) x y h = absurd (omega (arith, h))
front-set [] x y h = absurd (omega (arith, h))

shown-number : (w : Result (Option ℕ) Reason) → list_shown? w ≡ true → SHOWN ≡ listed_number w
shown-number (Err NoModel) e = absurd (false≢true e)
shown-number (Err NotWellFormed) e = absurd (false≢true e)
shown-number (Ok None) e = absurd (false≢true e)
shown-number (Err TooLong) e = absurd (false≢true e)
shown-number (Ok (Some n)) e = refl

module _ (t : Trace) (m : ℕ) (b : List ℕ) (h : LIST ≤ length b) where
  -- what is lent to the writer, and what the numbers are after it
  abbrev lent : List ℕ
  lent = take (length b - LIST) (drop LIST b)

  abbrev whole : List ℕ → List ℕ
  whole last = take LIST b ++ (last ++ drop (length b - LIST) (drop LIST b))

  lent-all : lent ≡ drop LIST b
  lent-all = take_all (length b - LIST) (drop LIST b) (omega (arith, length-drop LIST b))

  ended : (last : List ℕ) → whole last ≡ take LIST b ++ last
  ended last =
      ap (λ (x : List ℕ). take LIST b ++ (last ++ x)) (drop_of_length-le (drop LIST b) {i = length b - LIST} (omega (arith, length-drop LIST b)))
      ∙ ap (λ (x : List ℕ). take LIST b ++ x) (append-nil last)

  module _ (u : Trace) (same : u ≡ t) (last : List ℕ) (w : Result (Option ℕ) Reason) (s : Writes u m lent last w) where
    told : Writes t m (drop LIST b) last w
    told = subst (λ (u : Trace). Writes u m (drop LIST b) last w) same (subst (λ (x : List ℕ). Writes u m x last w) lent-all s)

    pub unshown-written : list_shown? w ≡ false → (r : ℕ) → r ≡ listed_number w → PaperWritten t m b r (whole last)
    unshown-written e r q = (w, last, told, q, ended last ∙ ap (λ (y : Bool). cond y (halves (length_of w)) (take LIST b) ++ last) (sym e))

    pub shown-written : list_shown? w ≡ true → (n : ℕ) → n ≡ length_of w → (after : List ℕ) → after ≡ halves n ++ drop LIST (whole last) → PaperWritten t m b SHOWN after
    shown-written e n l after a = (
      w,
      last,
      told,
      shown-number w e,
      a
          ∙ ap₂ (λ (n : ℕ) (x : List ℕ). halves n ++ drop LIST x) l (ended last)
          ∙ ap (λ (x : List ℕ). halves (length_of w) ++ x) (drop_at (take LIST b) last LIST (length-take-le LIST b h))
          ∙ ap (λ (y : Bool). cond y (halves (length_of w)) (take LIST b) ++ last) (sym e),
    )

pub asked-one : (text : List ℕ) (m : ℕ) (b after after' : List ℕ) (r s : ℕ) → PaperAsked text m b after r → PaperAsked text m b after' s → (r ≡ s) × (after ≡ after')
asked-one text m b after after' r s = ranked-one text m LIST (PaperWritten (read_whole text).trace m b) b one after after' r s
  where
    one : (r s : ℕ) (after after' : List ℕ) → PaperWritten (read_whole text).trace m b r after → PaperWritten (read_whole text).trace m b s after' → (r ≡ s) × (after ≡ after')
    one r s after after' (w, list, p, q, e) (w', list', p', q', e') =
        let o = writes_one (read_whole text).trace m (drop LIST b) list list' w w' p p' in
        (q ∙ ap listed_number o.0 ∙ sym q', e ∙ ap₂ (λ (w : Result (Option ℕ) Reason) (l : List ℕ). length_front w b ++ l) o.0 o.1 ∙ sym e')
