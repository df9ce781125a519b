-- Parts of a lent text.
--
--   part-one              == a text has one part from a start to an end: place and bytes are settled
--   part-place            == a part has one start: what lies elsewhere is another part, were its bytes the same
--   start-here, start-end == where the line at a place starts: in the text, and past its end
--   line-bytes            == the bytes of the line at a place
use mathlib.Core.Path.{◌≡◌, refl, sym, ap, ◌∙◌}
use mathlib.Core.List.{List, ◌∷◌}
use Prim.Native.Nat.{ℕ, ◌<◌, ◌≤◌}
use native.Mathlib.Decide.{dec_lt}
use native.Mathlib.Omega.{arith}
use borrow.Author.Tests.{le-leb, lt-leb}
use lib.ListN.{length}
use denote.Ref.{Bor}
use Rattle.text.specs.Lines.{end_at, line_at}
use Rattle.text.specs.Part.{PartOf, LineOf, start_at, laid_part}
use Rattle.text.proofs.Lines.{line-part, line-none}

module _ (text : Bor (List ℕ)) where
  pub part-one : {start end : ℕ} {x y : Bor (List ℕ)} → PartOf text start end x → PartOf text start end y → laid_part x ≡ laid_part y
  part-one p q i = (p.block ∙ sym q.block) i ∷ (p.place ∙ sym q.place) i ∷ (p.bytes ∙ sym q.bytes) i

  pub part-place : {a b c d : ℕ} {x : Bor (List ℕ)} → PartOf text a b x → PartOf text c d x → a ≡ c
  part-place p q = omega (arith, p.place, q.place)

module _ (text : List ℕ) (at : ℕ) where
  pub start-here : at < length text → start_at text at ≡ at
  unfolding start_at
  start-here h = rw (lt-leb (length text) at h)

  pub start-end : length text ≤ at → start_at text at ≡ length text
  unfolding start_at
  start-end h = rw (le-leb (length text) at h)

pub line-bytes : (text : Bor (List ℕ)) (at : ℕ) (r : Bor (List ℕ)) → LineOf text at r → r.now ≡ line_at text.now at
line-bytes text at r p =
    let t = text.now in
    p.bytes ∙ line-part t (start_at t at) (end_at t (start_at t at)) refl ∙ elim (dec_lt at (length t)) [
      | yes h ↦ ap (line_at t) (start-here t at h)
      | no h ↦ ap (line_at t) (start-end t at (omega arith)) ∙ line-none t (length t) (omega arith) ∙ sym (line-none t at (omega arith))
    ]
