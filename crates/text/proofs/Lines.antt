-- Lines seen from one byte further on, and from one line further on.
--
--   end-here, end_on, end-last == where the line ends: at a feed, further on, at the end of the text
--   end-within                 == the end is a place in the text
--   line-none                  == past the end the line is empty
--   line-part                  == the line is the part from its start to its end
--   lines-on, lines-over       == the lines from a place on
use mathlib.Core.Path.{◌≡◌, refl, sym, ap, ◌∙◌}
use mathlib.Core.List.{List, [], ◌∷◌}
use Prim.Native.Nat.{ℕ, suc, ◌+◌, ◌-◌, ◌<◌, ◌≤◌}
use native.Mathlib.Numerals.{add-one}
use native.Mathlib.Omega.{arith}
use mathlib.Core.Bool.{Bool, true, false}
use borrow.Author.Tests.{eq-eqb, ne_eqb, lt-ltb, le-ltb}
use native.Mathlib.Decide.{dec_lt}
use lib.Dec.{eqb, ltb, leb-suc-suc}
use lib.ListN.{length, take, drop, get_or, drop_of_length-le, length-drop}
use mathlib.Core.Logic.{inl, inr}
use Rattle.laws.proofs.Tests.{test}
use lib.Seq.{drop-cons, drop-drop}
use Rattle.text.specs.Bounds.{FEED}
use Rattle.text.specs.Lines.{ahead, lines, line_len, end_at, line_at}

len-le : (s : List ℕ) → line_len s ≤ length s
unfolding line_len
len-le [] = omega arith
len-le (b ∷ bs) =
    elim (test (eqb b FEED)) [ inl e ↦ rw e (omega arith) | inr e ↦ rw e (omega (arith, len-le bs)) ]

module _ (t : List ℕ) (i : ℕ) where
  pub end-here : i < length t → get_or t i 0 ≡ FEED → end_at t i ≡ i
  unfolding line_len
  end-here h e = let z : line_len (drop i t) ≡ 0 = rw (drop-cons t i 0 h) (rw (eq-eqb (get_or t i 0) FEED e)) in omega arith

  pub end_on : i < length t → (get_or t i 0 ≡ FEED → ⊥) → end_at t i ≡ end_at t (i + 1)
  unfolding line_len
  end_on h n =
      let z : line_len (drop i t) ≡ suc (line_len (drop (i + 1) t)) = rw (add-one, drop-cons t i 0 h) (rw (ne_eqb (get_or t i 0) FEED n)) in
      omega arith

  pub end-last : length t ≤ i → end_at t i ≡ i
  unfolding line_len
  end-last h = let z : line_len (drop i t) ≡ 0 = rw (drop_of_length-le t h) in omega arith

  -- from a place in the text the end is one too
  pub end-within : i ≤ length t → end_at t i ≤ length t
  end-within h = omega (arith, len-le (drop i t), length-drop i t)

  pub line-none : length t ≤ i → line_at t i ≡ []
  unfolding line_len
  line-none h = rw (drop_of_length-le t h)

  pub line-part : (r : ℕ) → r ≡ end_at t i → take (r - i) (drop i t) ≡ line_at t i
  line-part r e = ap (λ (n : ℕ). take n (drop i t)) (let f : r - i ≡ line_len (drop i t) = omega arith in f)

-- a text that is not over begins with a line
lines_cons : (s : List ℕ) → 0 < length s → lines s ≡ record { bytes = take (line_len s) s; ended = ltb (line_len s) (length s) } ∷ lines (drop (suc (line_len s)) s)
unfolding lines line_len ahead
lines_cons [] h = absurd (omega arith)
lines_cons (b ∷ bs) h = go (eqb b FEED) refl bs (lines_cons bs)
  where
    go : (f : Bool) → eqb b FEED ≡ f → (bs : List ℕ)
        → (0 < length bs → lines bs ≡ record { bytes = take (line_len bs) bs; ended = ltb (line_len bs) (length bs) } ∷ lines (drop (suc (line_len bs)) bs))
        → lines (b ∷ bs) ≡ record { bytes = take (line_len (b ∷ bs)) (b ∷ bs); ended = ltb (line_len (b ∷ bs)) (length (b ∷ bs)) } ∷ lines (drop (suc (line_len (b ∷ bs))) (b ∷ bs))
    go true e bs ih = rw (e, lt-ltb 0 (suc (length bs)) (omega arith))
    go false e [] ih = rw e
    go false e (c ∷ cs) ih =
        rw (e, ih (omega arith))
        (ap (λ (f : Bool). record { bytes = b ∷ take (line_len (c ∷ cs)) (c ∷ cs); ended = f } ∷ lines (drop (suc (line_len (c ∷ cs))) (c ∷ cs))) (sym (leb-suc-suc (suc (line_len (c ∷ cs))) (length (c ∷ cs)))))

-- the lines from a place on: the one there, and those behind it
pub lines-on : (t : List ℕ) (i : ℕ) → i < length t → lines (drop i t) ≡ record { bytes = line_at t i; ended = ltb (end_at t i) (length t) } ∷ lines (drop (end_at t i + 1) t)
lines-on t i h =
    let s = drop i t in
    let n = line_len s in
    let l = length-drop i t in
    lines_cons s (omega arith)
    ∙ ap (λ (f : Bool). record { bytes = take n s; ended = f } ∷ lines (drop (suc n) s)) (ended (dec_lt n (length s)))
    ∙ ap (λ (r : List ℕ). record { bytes = take n s; ended = ltb (end_at t i) (length t) } ∷ lines r) (drop-drop (suc n) i t ∙ ap (λ (k : ℕ). drop k t) (let q : i + suc n ≡ i + n + 1 = omega arith in q))
  where
    ended : Dec (line_len (drop i t) < length (drop i t)) → ltb (line_len (drop i t)) (length (drop i t)) ≡ ltb (end_at t i) (length t)
    ended (yes b) = lt-ltb (line_len (drop i t)) (length (drop i t)) b ∙ sym (lt-ltb (end_at t i) (length t) (omega (arith, length-drop i t)))
    ended (no b) = le-ltb (line_len (drop i t)) (length (drop i t)) (omega arith) ∙ sym (le-ltb (end_at t i) (length t) (omega (arith, length-drop i t)))

pub lines-over : (t : List ℕ) (i : ℕ) → length t ≤ i → lines (drop i t) ≡ []
unfolding lines
lines-over t i h = rw (drop_of_length-le t h)
