-- What the small reader says of a list, asked over a text.
--
--   acceptance_number a  == the answer to what it says
--   Papered text m l r  == what `wheelotter_accepts` promises: what is wrong with the text, or what the small reader says of the list for the text's trace
use Rattle.std.specs.Prelude.{◌≡◌, Bool, true, false, List, ℕ, ◌<◌, Result, Ok, Err}
use Rattle.reader.specs.Whole.{read_whole}
use Rattle.papers.specs.Accepts.{Accepts}
use Rattle.papers.specs.declared.reading.Refusal.{Refusal}
use Rattle.papers.specs.declared.reading.Refusal.TheVariants.{NoModel, NotWellFormed}
use Rattle.desk.specs.AnswerNumbers.{NO-MODEL, NOT-WELL-FORMED, ACCEPTED, NOT-ACCEPTED}
use Rattle.desk.specs.Text.{text_number}

abbrev pub acceptance_number : Result Bool Refusal → ℕ
acceptance_number (Err NoModel) = NO-MODEL
acceptance_number (Err NotWellFormed) = NOT-WELL-FORMED
acceptance_number (Ok true) = ACCEPTED
acceptance_number (Ok false) = NOT-ACCEPTED

pub record Papered (text : List ℕ) (m : ℕ) (l : List ℕ) (r : ℕ) : Type 0 where
  pub wrong : 0 < text_number text → r ≡ text_number text
  pub says : text_number text ≡ 0 → (a : Result Bool Refusal) × Accepts (read_whole text).trace m l a × (r ≡ acceptance_number a)
