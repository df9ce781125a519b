-- What is left of a faulty trace, asked over a text.
--
--   LEFT            == how many bytes stand before the text of what is left: two numbers, and the old numbers' places, two bytes each
--   smaller_number a == the answer: document 01's number, that nothing is wrong, or that the trace was cut down
--   heading a n     == the number in front: how many records are left, which n says; beside a missing source the record that lacks it
--   left_bytes s     == the bytes of an answer: that number, how many bytes the text has, the old numbers, and the text of what is left
--   CutAnswered text m before after r == what `wheelotter_smaller` promises: after what is wrong, the answer on the text's trace, its bytes at the front of
--                                     the buffer and all behind as it was; where they do not fit, that there is no room, and the buffer as it was
use Rattle.std.specs.Prelude.{◌≡◌, cond, List, ◌∷◌, ◌++◌, ℕ, ◌+◌, ◌*◌, length}
use Rattle.trace.specs.Bounds.{RECORDS}
use Rattle.text.specs.Room.{has_room, put_at}
use Rattle.reader.specs.Whole.{read_whole}
use Rattle.reader.specs.TextOf.{render_trace}
use Rattle.smaller.specs.Smaller.{cut_number, ToldSmaller}
use Rattle.smaller.specs.declared.Answer.{Answer}
use Rattle.smaller.specs.declared.Answer.TheVariants as smaller
use Rattle.smaller.specs.declared.Smaller.{Smaller}
use Rattle.desk.specs.AnswerNumbers.{NO-ROOM, CUT, NOTHING-WRONG}
use Rattle.desk.specs.VerdictBytes.{wide}
use Rattle.desk.specs.Ranked.{Ranked}

abbrev pub LEFT : ℕ
LEFT = 4 + 2 * RECORDS

abbrev pub smaller_number : Answer → ℕ
smaller_number smaller.NoModel = cut_number smaller.NoModel
smaller_number smaller.NotWellFormed = cut_number smaller.NotWellFormed
smaller_number (smaller.NoSource x) = cut_number (smaller.NoSource x)
smaller_number smaller.NothingWrong = NOTHING-WRONG
smaller_number smaller.Cut = CUT

abbrev pub heading : Answer → ℕ → ℕ
heading smaller.NoModel n = n
heading smaller.NotWellFormed n = n
heading (smaller.NoSource x) n = x
heading smaller.NothingWrong n = n
heading smaller.Cut n = n

unfoldable pub left_bytes : Smaller → List ℕ
left_bytes s = let lines = render_trace s.trace in wide (heading s.answer s.trace.len ∷ length lines ∷ s.olds) ++ lines

abbrev pub CutAnswered : List ℕ → ℕ → List ℕ → List ℕ → ℕ → Type 0
CutAnswered text m before after r =
    let t = (read_whole text).trace in
    Ranked text m 0 (λ r after. (s : Smaller) × ToldSmaller t m s × (r ≡ cond (has_room (left_bytes s) before 0) (smaller_number s.answer) NO-ROOM) × (after ≡ put_at (left_bytes s) before 0)) before after r
