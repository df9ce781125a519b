-- The numbers that an entry answers with beside document 01's; no number has two meanings. 64 and up are no refusals.
--
--   NO-ROOM                        == the lent buffer is too short
--   ORDER, CIRCLE, NONE-LEFT       == a verdict
--   HELD, NOT-HELD, CONTRADICTED   == what a session says when it is asked
--   VALID                          == the judge: a valid order
--   WRONG-LENGTH, BAD-NUMBER, REPEAT, OUT-OF-TURN, WRONG-VALUE == the condition that a list fails first
--   UNDECIDED                      == a limited verdict: the plain search makes more steps than the limit
--   NOTHING-WRONG, CUT             == a trace that is to be cut down has an order, or was cut down
--   THROUGH, NOT-THROUGH           == the machine: all steps are done, and the trace ran through, or not
--   REPLAYED, NO-ORDER             == steps that run an order through, or a list that is none
--   ACCEPTED, NOT-ACCEPTED         == the small reader of papers: a list is accepted, or not
--   WAITS                          == a session: a load or swap waits for its source
--   NOTHING-TO-SHOW, SHOWN         == a paper that is asked for: there is nothing to show, or it was written
--   NO-MODEL, NOT-WELL-FORMED, NO-SOURCE == document 01's numbers of a model that does not exist, of a trace that is not well formed, and of a missing source
--   answer_to v                     == the answer to a verdict: a missing source is document 01's 11
--   outcome_number o                == the same, by its outcome as the code holds it
use Rattle.std.specs.Prelude.{ℕ}
use Rattle.rules.specs.Verdict as said
use Rattle.verdict.specs.VerdictOf.{refused_by}
use Rattle.verdict.specs.declared.Outcome.{Outcome}
use Rattle.verdict.specs.declared.Outcome.TheVariants.{NoSource, Circle, Order, NoneLeft, NoModel, NotWellFormed}

abbrev pub NO-ROOM : ℕ
NO-ROOM = 21

abbrev pub ORDER : ℕ
ORDER = 64

abbrev pub CIRCLE : ℕ
CIRCLE = 65

abbrev pub NONE-LEFT : ℕ
NONE-LEFT = 66

abbrev pub HELD : ℕ
HELD = 67

abbrev pub NOT-HELD : ℕ
NOT-HELD = 68

abbrev pub CONTRADICTED : ℕ
CONTRADICTED = 69

abbrev pub VALID : ℕ
VALID = 70

abbrev pub WRONG-LENGTH : ℕ
WRONG-LENGTH = 71

abbrev pub BAD-NUMBER : ℕ
BAD-NUMBER = 72

abbrev pub REPEAT : ℕ
REPEAT = 73

abbrev pub OUT-OF-TURN : ℕ
OUT-OF-TURN = 74

abbrev pub WRONG-VALUE : ℕ
WRONG-VALUE = 75

abbrev pub UNDECIDED : ℕ
UNDECIDED = 76

abbrev pub NOTHING-WRONG : ℕ
NOTHING-WRONG = 77

abbrev pub CUT : ℕ
CUT = 78

abbrev pub THROUGH : ℕ
THROUGH = 79

abbrev pub NOT-THROUGH : ℕ
NOT-THROUGH = 80

abbrev pub REPLAYED : ℕ
REPLAYED = 81

abbrev pub NO-ORDER : ℕ
NO-ORDER = 82

abbrev pub ACCEPTED : ℕ
ACCEPTED = 90

abbrev pub NOT-ACCEPTED : ℕ
NOT-ACCEPTED = 91

abbrev pub WAITS : ℕ
WAITS = 92

abbrev pub NOTHING-TO-SHOW : ℕ
NOTHING-TO-SHOW = 93

abbrev pub SHOWN : ℕ
SHOWN = 94

abbrev pub NO-MODEL : ℕ
NO-MODEL = 9

abbrev pub NOT-WELL-FORMED : ℕ
NOT-WELL-FORMED = 10

abbrev pub NO-SOURCE : ℕ
NO-SOURCE = 11

abbrev pub answer_to : said.Verdict → ℕ
answer_to (said.no_source x) = NO-SOURCE
answer_to (said.circle c rs) = CIRCLE
answer_to (said.order xs) = ORDER
answer_to said.none_left = NONE-LEFT

abbrev pub outcome_number : Outcome → ℕ
outcome_number (NoSource x) = NO-SOURCE
outcome_number Circle = CIRCLE
outcome_number Order = ORDER
outcome_number NoneLeft = NONE-LEFT
outcome_number NoModel = refused_by NoModel
outcome_number NotWellFormed = refused_by NotWellFormed
