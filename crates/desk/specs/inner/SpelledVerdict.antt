-- A verdict as the code lays it into bytes.
--
--   lacking o     == the record that lacks a source; 0 for any other outcome
--   spelled v     == the verdict as it is told: a record that lacks a source is its one operation
--   spelled_as o v == the same, by its outcome
--   laid_out v     == the bytes of a verdict that is spelled
use Rattle.std.specs.Prelude.{List, [], ◌∷◌, ◌++◌, ℕ, replicate}
use Rattle.trace.specs.Bounds.{RECORDS}
use Rattle.trace.specs.Padded.{padded}
use Rattle.verdict.specs.declared.Outcome.{Outcome}
use Rattle.verdict.specs.declared.Outcome.TheVariants.{NoSource, Circle, Order, NoneLeft, NoModel, NotWellFormed}
use Rattle.verdict.specs.declared.Verdict.{Verdict}
use Rattle.desk.specs.VerdictBytes.{wide}

abbrev pub lacking : Outcome → ℕ
lacking (NoSource x) = x
lacking Circle = 0
lacking Order = 0
lacking NoneLeft = 0
lacking NoModel = 0
lacking NotWellFormed = 0

abbrev pub spelled_as : Outcome → Verdict → Verdict
spelled_as (NoSource x) v = record { outcome = NoSource x; len = 1; operations = padded (x ∷ []); rules = replicate RECORDS 0 }
spelled_as Circle v = v
spelled_as Order v = v
spelled_as NoneLeft v = v
spelled_as NoModel v = v
spelled_as NotWellFormed v = v

unfoldable pub spelled : Verdict → Verdict
spelled v = spelled_as v.outcome v

unfoldable pub laid_out : Verdict → List ℕ
laid_out v = wide (v.len ∷ v.operations) ++ v.rules
