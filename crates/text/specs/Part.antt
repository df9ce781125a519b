-- A part of a lent text: where it lies, and its bytes.
--
--   PartOf text start end r == r is the text's own part from start to before end: it lies start bytes behind the front of the text and has those bytes
--   start_at text at        == where the line at a place starts: there; past the end, at the end
--   LineOf text at r        == r is the line at a place, without its line feed; at or past the end the empty part at the end of the text
--   laid_part r             == all that a part is: the block it lies in, the place there, then the bytes
use Rattle.std.specs.Prelude.{cond, ◌≡◌, List, ◌∷◌, ℕ, ◌+◌, ◌-◌, leb, length, take, drop}
use Rattle.std.specs.Borrow.{Bor}
use Rattle.text.specs.Lines.{end_at}

pub record PartOf (text : Bor (List ℕ)) (start end : ℕ) (r : Bor (List ℕ)) : Type 0 where
  pub block : r.ref_ptr.0 ≡ text.ref_ptr.0
  pub place : r.ref_ptr.1 ≡ text.ref_ptr.1 + start
  pub bytes : r.now ≡ take (end - start) (drop start text.now)

unfoldable pub start_at : List ℕ → ℕ → ℕ
start_at text at = cond (leb (length text) at) (length text) at

abbrev pub LineOf : Bor (List ℕ) → ℕ → Bor (List ℕ) → Type 0
LineOf text at = PartOf text (start_at text.now at) (end_at text.now (start_at text.now at))

abbrev pub laid_part : Bor (List ℕ) → List ℕ
laid_part r = r.ref_ptr.0 ∷ r.ref_ptr.1 ∷ r.now
