-- A verdict in bytes.
--
--   VERDICT        == how many bytes it has: how many operations it tells and their places, two bytes each, and the places of the rules
--   wide ns        == numbers in two bytes each, the low byte first
--   operations_of v == the operations that a verdict tells: a record that lacks a source is its one operation
--   rules_in v      == the rules that it tells, those of a circle
--   verdict_bytes v == its bytes
--   VerdictAnswered text m before after r == what `wheelotter_verdict` promises: after what is wrong, the verdict on the text's trace, its bytes at the
--                                     front of the buffer and all behind as it was
use Rattle.std.specs.Prelude.{◌≡◌, List, [], ◌∷◌, ◌++◌, ℕ, ◌+◌, ◌*◌, ◌/◌, ◌%◌, length, drop}
use Rattle.trace.specs.Bounds.{RECORDS}
use Rattle.trace.specs.Meaning.{frame_of}
use Rattle.trace.specs.Padded.{padded}
use Rattle.pairs.specs.Kept.{kept_of}
use Rattle.reader.specs.Whole.{read_whole}
use Rattle.rules.specs.Verdict as said
use Rattle.desk.specs.AnswerNumbers.{answer_to}
use Rattle.desk.specs.Ranked.{Ranked}

abbrev pub VERDICT : ℕ
VERDICT = 2 + 3 * RECORDS

unfoldable pub wide : List ℕ → List ℕ
wide [] = []
wide (n ∷ ns) = n % 256 ∷ n / 256 ∷ wide ns

abbrev pub operations_of : said.Verdict → List ℕ
operations_of (said.no_source x) = x ∷ []
operations_of (said.circle c rs) = c
operations_of (said.order xs) = xs
operations_of said.none_left = []

abbrev pub rules_in : said.Verdict → List ℕ
rules_in (said.no_source x) = []
rules_in (said.circle c rs) = rs
rules_in (said.order xs) = []
rules_in said.none_left = []

unfoldable pub verdict_bytes : said.Verdict → List ℕ
verdict_bytes v = wide (length (operations_of v) ∷ padded (operations_of v)) ++ padded (rules_in v)

abbrev pub VerdictAnswered : List ℕ → ℕ → List ℕ → List ℕ → ℕ → Type 0
VerdictAnswered text m before after r =
    let t = (read_whole text).trace in
    Ranked text m VERDICT (λ r after. (v : said.Verdict) × said.Says (frame_of t) (kept_of m t) v × (r ≡ answer_to v) × (after ≡ verdict_bytes v ++ drop VERDICT before)) before after r
