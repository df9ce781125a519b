-- What the judge says of a list, asked over a text.
--
--   JUDGEMENT         == how many bytes come with an answer: two numbers of two bytes each
--   judgement_number j == the answer to a judgement
--   concerns j        == the place or the record that comes with it, of a pair the first record; 0 where nothing does
--   second j          == the second record of a pair that is out of turn; 0 for any other
--   Judged text m xs before after r == what `wheelotter_judge` promises: after what is wrong, the judgement of the list for the text's trace, with
--                                      its numbers at the front of the buffer and all behind as it was
use Rattle.std.specs.Prelude.{◌≡◌, Result, Ok, Err, List, [], ◌∷◌, ◌++◌, ℕ, drop}
use Rattle.reader.specs.Whole.{read_whole}
use Rattle.judge.specs.Judged.{judged_of}
use Rattle.judge.specs.declared.judging.Broken.{Broken}
use Rattle.judge.specs.declared.judging.Broken.TheVariants.{NoModel, NotWellFormed, WrongLength, BadNumber, Repeat, OutOfTurn, WrongValue}
use Rattle.desk.specs.AnswerNumbers.{NO-MODEL, NOT-WELL-FORMED, VALID, WRONG-LENGTH, BAD-NUMBER, REPEAT, OUT-OF-TURN, WRONG-VALUE}
use Rattle.desk.specs.VerdictBytes.{wide}
use Rattle.desk.specs.Ranked.{Ranked}

abbrev pub JUDGEMENT : ℕ
JUDGEMENT = 4

abbrev pub judgement_number : Result Unit Broken → ℕ
judgement_number (Ok u) = VALID
judgement_number (Err NoModel) = NO-MODEL
judgement_number (Err NotWellFormed) = NOT-WELL-FORMED
judgement_number (Err WrongLength) = WRONG-LENGTH
judgement_number (Err (BadNumber i)) = BAD-NUMBER
judgement_number (Err (Repeat x)) = REPEAT
judgement_number (Err (OutOfTurn x y)) = OUT-OF-TURN
judgement_number (Err (WrongValue L)) = WRONG-VALUE

abbrev pub concerns : Result Unit Broken → ℕ
concerns (Ok u) = 0
concerns (Err NoModel) = 0
concerns (Err NotWellFormed) = 0
concerns (Err WrongLength) = 0
concerns (Err (BadNumber i)) = i
concerns (Err (Repeat x)) = x
concerns (Err (OutOfTurn x y)) = x
concerns (Err (WrongValue L)) = L

abbrev pub second : Result Unit Broken → ℕ
second (Ok u) = 0
second (Err NoModel) = 0
second (Err NotWellFormed) = 0
second (Err WrongLength) = 0
second (Err (BadNumber i)) = 0
second (Err (Repeat x)) = 0
second (Err (OutOfTurn x y)) = y
second (Err (WrongValue L)) = 0

abbrev pub Judged : List ℕ → ℕ → List ℕ → List ℕ → List ℕ → ℕ → Type 0
Judged text m xs before after r =
    let j = judged_of (read_whole text).trace m xs in
    Ranked text m JUDGEMENT (λ r after. (r ≡ judgement_number j) × (after ≡ wide (concerns j ∷ second j ∷ []) ++ drop JUDGEMENT before)) before after r
