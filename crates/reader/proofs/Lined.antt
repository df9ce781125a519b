-- A text and its lines.
--
--   lines-line == the first line of a text that begins with a line
--   join ls    == lines one after another, each with its line feed where one ends it
--   join-lines == the lines of a text are the text
use mathlib.Core.Path.{◌≡◌, refl, sym, ap, ◌∙◌}
use mathlib.Core.Logic.{inl, inr}
use mathlib.Core.Bool.{true, cond}
use mathlib.Core.List.{List, [], ◌∷◌, ◌++◌}
use Prim.Native.Nat.{ℕ}
use native.Mathlib.Omega.{arith}
use lib.Dec.{eqb}
use borrow.Author.Tests.{eqb-true, eqb-false, ne_eqb}
use Rattle.laws.specs.Places.{count}
use Rattle.laws.proofs.Tests.{test}
use Rattle.text.specs.Bounds.{FEED}
use Rattle.text.specs.Lines.{Line, ahead, lines}

pub lines-line : (bs rest : List ℕ) → count FEED bs ≡ 0 → lines (bs ++ FEED ∷ rest) ≡ record { bytes = bs; ended = true } ∷ lines rest
unfolding lines count ahead
lines-line [] rest e = refl
lines-line (b ∷ bs) rest e = elim (test (eqb FEED b)) [
  | inl h ↦ absurd (omega (arith, rw h at e))
  | inr h ↦ rw (ne_eqb b FEED (λ q. eqb-false FEED b h (sym q)), lines-line bs rest (rw h at e))
]

abbrev pub join : List Line → List ℕ
join [] = []
join (l ∷ ls) = l.bytes ++ (cond l.ended (FEED ∷ []) [] ++ join ls)

join-ahead : (b : ℕ) (ls : List Line) → join (ahead b ls) ≡ b ∷ join ls
unfolding ahead
join-ahead b [] = refl
join-ahead b (l ∷ ls) = refl

pub join-lines : (text : List ℕ) → join (lines text) ≡ text
unfolding lines
join-lines [] = refl
join-lines (b ∷ bs) = elim (test (eqb b FEED)) [
  | inl h ↦ rw h (ap (λ cs. FEED ∷ cs) (join-lines bs) ∙ ap (λ c. c ∷ bs) (sym (eqb-true b FEED h)))
  | inr h ↦ rw h (join-ahead b (lines bs) ∙ ap (λ cs. b ∷ cs) (join-lines bs))
]
