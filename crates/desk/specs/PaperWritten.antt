-- A paper that is asked for over a text.
--
--   LIST                             == where the list begins in lent numbers, behind its length in two of them
--   listed_number w                   == the answer to what the writer says
--   list_shown? w                     == a list is shown
--   length_of w                       == how many numbers it has; 0 where there is none
--   halves n                         == a length in two numbers, the low half first
--   length_front w before             == the two numbers in front after it: the length of a list that is shown; otherwise as they were
--   PaperWritten t m before r after  == what the writer says of a trace, told by r, and the numbers after it: the list behind its length, the rest as it was
--   PaperAsked text m before after r == what `wheelotter_paper` promises: what is wrong with the text, no such model, no room for a length, all as it was; and
--                                       else what the writer says of the text's trace
use Rattle.std.specs.Prelude.{◌≡◌, Bool, true, false, cond, List, [], ◌∷◌, ◌++◌, ℕ, ◌/◌, ◌%◌, take, drop, Option, Some, None, Result, Ok, Err}
use Rattle.trace.specs.declared.Trace.{Trace}
use Rattle.reader.specs.Whole.{read_whole}
use Rattle.reasons.specs.Writes.{Writes}
use Rattle.reasons.specs.declared.listing.Reason.{Reason}
use Rattle.reasons.specs.declared.listing.Reason.TheVariants.{NoModel, NotWellFormed, TooLong}
use Rattle.desk.specs.AnswerNumbers.{NO-ROOM, NO-MODEL, NOT-WELL-FORMED, NOTHING-TO-SHOW, SHOWN}
use Rattle.desk.specs.Ranked.{Ranked}

abbrev pub LIST : ℕ
LIST = 2

abbrev pub listed_number : Result (Option ℕ) Reason → ℕ
listed_number (Err NoModel) = NO-MODEL
listed_number (Err NotWellFormed) = NOT-WELL-FORMED
listed_number (Ok None) = NOTHING-TO-SHOW
listed_number (Err TooLong) = NO-ROOM
listed_number (Ok (Some n)) = SHOWN

abbrev pub list_shown? : Result (Option ℕ) Reason → Bool
list_shown? (Err NoModel) = false
list_shown? (Err NotWellFormed) = false
list_shown? (Ok None) = false
list_shown? (Err TooLong) = false
list_shown? (Ok (Some n)) = true

abbrev pub length_of : Result (Option ℕ) Reason → ℕ
length_of (Err NoModel) = 0
length_of (Err NotWellFormed) = 0
length_of (Ok None) = 0
length_of (Err TooLong) = 0
length_of (Ok (Some n)) = n

abbrev pub halves : ℕ → List ℕ
halves n = n % 65536 ∷ n / 65536 % 65536 ∷ []

abbrev pub length_front : Result (Option ℕ) Reason → List ℕ → List ℕ
length_front w before = cond (list_shown? w) (halves (length_of w)) (take LIST before)

abbrev pub PaperWritten : Trace → ℕ → List ℕ → ℕ → List ℕ → Type 0
PaperWritten t m before r after =
    (w : Result (Option ℕ) Reason) × (list : List ℕ) × Writes t m (drop LIST before) list w × (r ≡ listed_number w) × (after ≡ length_front w before ++ list)

abbrev pub PaperAsked : List ℕ → ℕ → List ℕ → List ℕ → ℕ → Type 0
PaperAsked text m before after r = Ranked text m LIST (PaperWritten (read_whole text).trace m before) before after r
