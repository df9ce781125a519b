-- A limited verdict in bytes.
--
--   LIMITED      == how many bytes it has: a verdict's, and the count of steps
--   eight n      == a count in eight bytes, the low byte first
--   answer_at a   == the answer to it
--   verdict_in a  == the verdict whose bytes are laid: undecided names nothing, as where none is left
--   count_in a    == its count
--   bytes_at a    == its bytes
--   limit_number o, shown_as o, shown r == the same, by the outcome as the code holds it
--   LimitAnswered text m l before after r == what `wheelotter_limited` promises: after what is wrong, the answer at the limit l on the text's trace, its bytes
--                                       at the front of the buffer and all behind as it was
use Rattle.std.specs.Prelude.{◌≡◌, List, [], ◌∷◌, ◌++◌, ℕ, ◌+◌, ◌/◌, ◌%◌, drop}
use Rattle.trace.specs.Meaning.{frame_of}
use Rattle.pairs.specs.Kept.{kept_of}
use Rattle.reader.specs.Whole.{read_whole}
use Rattle.rules.specs.Verdict.{Verdict, none_left}
use Rattle.verdict.specs.declared.Outcome.{Outcome}
use Rattle.verdict.specs.declared.Outcome.TheVariants.{NoneLeft}
use Rattle.verdict.specs.declared.Verdict as held
use Rattle.plain.specs.Limited as said
use Rattle.limited.specs.declared.Limited.{Limited}
use Rattle.limited.specs.declared.Limited.TheVariants.{Decided, Undecided}
use Rattle.limited.specs.declared.Limit.{Limit}
use Rattle.desk.specs.AnswerNumbers.{UNDECIDED, answer_to, outcome_number}
use Rattle.desk.specs.Ranked.{Ranked}
use Rattle.desk.specs.VerdictBytes.{VERDICT, wide, verdict_bytes}

abbrev pub LIMITED : ℕ
LIMITED = VERDICT + 8

unfoldable pub eight : ℕ → List ℕ
eight n = wide (n % 65536 ∷ n / 65536 % 65536 ∷ n / 4294967296 % 65536 ∷ n / 281474976710656 ∷ [])

abbrev pub answer_at : said.Limited → ℕ
answer_at (said.decided v n) = answer_to v
answer_at (said.undecided n) = UNDECIDED

abbrev pub verdict_in : said.Limited → Verdict
verdict_in (said.decided v n) = v
verdict_in (said.undecided n) = none_left

abbrev pub count_in : said.Limited → ℕ
count_in (said.decided v n) = n
count_in (said.undecided n) = n

abbrev pub bytes_at : said.Limited → List ℕ
bytes_at a = verdict_bytes (verdict_in a) ++ eight (count_in a)

abbrev pub limit_number : Limited → ℕ
limit_number (Decided o) = outcome_number o
limit_number Undecided = UNDECIDED

abbrev pub shown_as : Limited → Outcome
shown_as (Decided o) = o
shown_as Undecided = NoneLeft

abbrev pub shown : Limit → held.Verdict
shown r = record { outcome = shown_as r.outcome; len = r.len; operations = r.operations; rules = r.rules }

abbrev pub LimitAnswered : List ℕ → ℕ → ℕ → List ℕ → List ℕ → ℕ → Type 0
LimitAnswered text m l before after r =
    let t = (read_whole text).trace in
    Ranked text m LIMITED (λ r after. (a : said.Limited) × said.Limits (frame_of t) (kept_of m t) l a × (r ≡ answer_at a) × (after ≡ bytes_at a ++ drop LIMITED before)) before after r
