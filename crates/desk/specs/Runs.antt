-- What the machine says, asked over a text.
--
--   PLACE, REPLAY     == how many bytes come with the end of a run: its place; how many steps from an order have: their count and the list's places
--   through_number b   == the answer to a run whose steps are all done
--   ran_number a       == the answer to a run
--   given_number g     == the answer to what comes of an order
--   spread s          == steps from an order in bytes: how many, and the list
--   hosted m          == the model as the machine knows it: m, and 0, which is none, where it has no machine
--   RunAnswered text m ss before after r == what `wheelotter_run` promises: after what is wrong, how the steps run the text's trace, with the place at the
--                                        front of the buffer and all behind as it was
--   Replayed text m xs before after r == what `wheelotter_steps` promises: after what is wrong, the steps of the order for the text's trace, at the
--                                        front of the buffer and all behind as it was
use Rattle.std.specs.Prelude.{◌≡◌, Result, Ok, Err, Bool, true, false, cond, List, [], ◌∷◌, ◌++◌, ℕ, ◌+◌, drop}
use Rattle.reader.specs.Whole.{read_whole}
use Rattle.machine.specs.Machine.{machined, answer, machine_number, stuck_at}
use Rattle.machine.specs.Replay.{STEPS, steps_of}
use Rattle.machine.specs.declared.Refusal.{Refusal}
use Rattle.machine.specs.declared.Given.{Given}
use Rattle.machine.specs.declared.Given.TheVariants as given
use Rattle.machine.specs.declared.Steps.{Steps}
use Rattle.desk.specs.AnswerNumbers.{NO-MODEL, NOT-WELL-FORMED, THROUGH, NOT-THROUGH, REPLAYED, NO-ORDER}
use Rattle.desk.specs.VerdictBytes.{wide}
use Rattle.desk.specs.Ranked.{Ranked}

abbrev pub PLACE : ℕ
PLACE = 2

abbrev pub REPLAY : ℕ
REPLAY = 2 + STEPS

abbrev pub through_number : Bool → ℕ
through_number true = THROUGH
through_number false = NOT-THROUGH

abbrev pub ran_number : Result Bool Refusal → ℕ
ran_number (Err reason) = machine_number (Err reason)
ran_number (Ok b) = through_number b

abbrev pub given_number : Given → ℕ
given_number given.NoModel = NO-MODEL
given_number given.NotWellFormed = NOT-WELL-FORMED
given_number given.NoOrder = NO-ORDER
given_number given.List = REPLAYED

unfoldable pub spread : Steps → List ℕ
spread s = wide (s.len ∷ []) ++ s.steps

abbrev pub hosted : ℕ → ℕ
hosted m = cond (machined m) m 0

abbrev pub RunAnswered : List ℕ → ℕ → List ℕ → List ℕ → List ℕ → ℕ → Type 0
RunAnswered text m ss before after r =
    let a = answer (read_whole text).trace m ss in
    Ranked text (hosted m) PLACE (λ r after. (r ≡ ran_number a) × (after ≡ wide (stuck_at a ∷ []) ++ drop PLACE before)) before after r

abbrev pub Replayed : List ℕ → ℕ → List ℕ → List ℕ → List ℕ → ℕ → Type 0
Replayed text m xs before after r =
    let s = steps_of (read_whole text).trace m xs in
    Ranked text (hosted m) REPLAY (λ r after. (r ≡ given_number s.given) × (after ≡ spread s ++ drop REPLAY before)) before after r
