-- A night's worth of runs, asked over a text.
--
--   PLACES          == a number with a word above it is below this
--   RUNS            == runs are told below this
--   with_run n i     == a number with a run above it; the number alone past the last run that is told
--   night_code a     == an answer in one number: 0, or the documents' number; above 24 the word, and above it the run
--   Nighted text m ws before after r == what `wheelotter_night` promises: what is wrong with the text, and the lent memory as it was; or what is promised of
--                                       the runs of the text's program, the answer in one number
use Rattle.std.specs.Prelude.{Result, Ok, Err, ◌≡◌, cond, List, ℕ, ◌+◌, ◌*◌, ◌<◌, ltb}
use Rattle.reader.specs.Whole.{read_whole}
use Rattle.night.specs.Night.{night_number, Nights}
use Rattle.night.specs.declared.Reason.{Reason}
use Rattle.night.specs.declared.Reason.TheVariants.{NotWellFormed, NoModel, WrongLength, TooLarge}
use Rattle.desk.specs.Text as text
use Rattle.desk.specs.Signed.{with_place}

abbrev pub PLACES : ℕ
PLACES = 65536

abbrev pub RUNS : ℕ
RUNS = 4294967296

unfoldable pub with_run : ℕ → ℕ → ℕ
with_run n i = cond (ltb i RUNS) (n + PLACES * i) n

abbrev pub night_code : Result (Unit {0}) Reason → ℕ
night_code (Ok done) = night_number (Ok done)
night_code (Err NotWellFormed) = night_number (Err NotWellFormed)
night_code (Err NoModel) = night_number (Err NoModel)
night_code (Err WrongLength) = night_number (Err WrongLength)
night_code (Err (TooLarge i k)) = with_run (with_place (night_number (Err (TooLarge i k))) k) i

pub record Nighted (words : List ℕ) (m : ℕ) (ws before after : List ℕ) (r : ℕ) : Type 0 where
  pub wrong : 0 < text.text_number words → (r ≡ text.text_number words) × (after ≡ before)
  pub good : text.text_number words ≡ 0 → (a : Result (Unit {0}) Reason) × Nights (read_whole words).trace m ws before after a × (r ≡ night_code a)
