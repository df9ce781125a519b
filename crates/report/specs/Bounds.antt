-- How many bytes the parts of an answer have at the most.
--
--   DIGITS == the number of a record or a rule
--   NUMBER == the same after a space
--   LONG   == any number that the code holds
--   SAID   == what is said of one model
--   NAME   == the model's name
--   VERDICT-LINE == the line of one model
--   REPORT == the whole answer
--   VALUE  == a value, or any other number of a record
--   FORM   == the form of a line
--   RECORD-LINE == a line of a trace with its feed
--   RENDER == the text of a trace
use Rattle.std.specs.Prelude.{ℕ, ◌+◌, ◌*◌}
use Rattle.trace.specs.Bounds.{RECORDS, ADDRESSES}
use Rattle.pairs.specs.Kept.{MODELS}

abbrev pub DIGITS : ℕ
DIGITS = 3

abbrev pub NUMBER : ℕ
NUMBER = 1 + DIGITS

abbrev pub LONG : ℕ
LONG = 20

abbrev pub NAME : ℕ
NAME = 3

-- the words, and two lists of numbers
abbrev pub SAID : ℕ
SAID = 40 + 2 * (NUMBER * RECORDS)

-- with a colon, a space and the line feed
abbrev pub VERDICT-LINE : ℕ
VERDICT-LINE = NAME + 3 + SAID

abbrev pub REPORT : ℕ
REPORT = MODELS * VERDICT-LINE

abbrev pub VALUE : ℕ
VALUE = 5

abbrev pub FORM : ℕ
FORM = 27

-- no byte of a form gives more than a value's digits
abbrev pub RECORD-LINE : ℕ
RECORD-LINE = 1 + VALUE * FORM

abbrev pub RENDER : ℕ
RENDER = RECORD-LINE * (ADDRESSES + RECORDS)
