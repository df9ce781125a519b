-- What the small reader says over a text.
--
--   papered-one  == no second answer
--   papered-none == a list is accepted only where the text's trace has no valid order
use mathlib.Core.Path.{◌≡◌, sym, ap, ◌∙◌}
use mathlib.Core.Bool.{Bool, true, false}
use mathlib.Core.List.{List}
use Prim.Native.Nat.{ℕ}
use native.Mathlib.Decide.{dec_lt}
use native.Mathlib.Omega.{arith}
use Rattle.trace.specs.Meaning.{frame_of}
use Rattle.rules.specs.Order.{Valid}
use Rattle.reader.specs.Whole.{read_whole}
use Rattle.pairs.specs.Kept.{kept_of}
use Rattle.papers.specs.Accepts.{Accepts}
use Rattle.papers.specs.declared.reading.Refusal.{Refusal}
use Rattle.papers.specs.declared.reading.Refusal.TheVariants.{NoModel, NotWellFormed}
use Rattle.std.specs.Prelude.{Result, Ok, Err}
use Rattle.papers.proofs.Unique.{accepts-one, accepts-none}
use Rattle.desk.specs.AnswerNumbers.{ACCEPTED}
use Rattle.desk.specs.Text.{text_number}
use Rattle.desk.specs.PaperCall.{acceptance_number, Papered}

module _ (text : List ℕ) (m : ℕ) (l : List ℕ) where
  pub papered-one : (r s : ℕ) → Papered text m l r → Papered text m l s → r ≡ s
  papered-one r s p q = elim (dec_lt 0 (text_number text)) [
    | yes g ↦ p.wrong g ∙ sym (q.wrong g)
    | no g ↦
        let z : text_number text ≡ 0 = omega arith in
        let a = p.says z in
        let b = q.says z in
        a.2 ∙ ap acceptance_number (accepts-one (read_whole text).trace m l a.0 b.0 a.1 b.1) ∙ sym b.2
  ]

  pub papered-none : text_number text ≡ 0 → Papered text m l ACCEPTED → (xs : List ℕ) → Valid (frame_of (read_whole text).trace) (kept_of m (read_whole text).trace) xs → ⊥
  papered-none z p = let a = p.says z in go a.0 a.1 a.2
    where
      go : (a : Result Bool Refusal) → Accepts (read_whole text).trace m l a → ACCEPTED ≡ acceptance_number a
          → (xs : List ℕ) → Valid (frame_of (read_whole text).trace) (kept_of m (read_whole text).trace) xs → ⊥
      go (Err NoModel) h e = absurd (omega (arith, e))
      go (Err NotWellFormed) h e = absurd (omega (arith, e))
      go (Ok true) h e = accepts-none (read_whole text).trace m l h
      go (Ok false) h e = absurd (omega (arith, e))
