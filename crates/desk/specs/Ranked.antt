-- What an entry over a text and a model promises of a buffer that is lent: what is wrong comes before what is said.
--
--   Ranked text m size S before after r == the number of what is wrong with the text, then that there is no such model, then that the buffer has fewer
--                                          than `size` bytes, and the buffer as it was; and else S of the answer and the buffer after it
use Rattle.std.specs.Prelude.{◌≡◌, false, List, ℕ, ◌≤◌, ◌<◌, length}
use Rattle.std.proofs.Math.Bool.{So}
use Rattle.pairs.specs.Kept.{modelled}
use Rattle.desk.specs.AnswerNumbers.{NO-ROOM, NO-MODEL}
use Rattle.desk.specs.Text.{text_number}

pub record Ranked (text : List ℕ) (m size : ℕ) (S : ℕ → List ℕ → Type 0) (before after : List ℕ) (r : ℕ) : Type 0 where
  pub wrong : 0 < text_number text → (r ≡ text_number text) × (after ≡ before)
  pub model : text_number text ≡ 0 → modelled m ≡ false → (r ≡ NO-MODEL) × (after ≡ before)
  pub short : text_number text ≡ 0 → So (modelled m) → length before < size → (r ≡ NO-ROOM) × (after ≡ before)
  pub says : text_number text ≡ 0 → So (modelled m) → size ≤ length before → S r after
