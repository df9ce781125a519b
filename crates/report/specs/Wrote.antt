-- What is written into a lent buffer at a place.
--
--   Wrote before at bytes after end == up to the new end stand the bytes before the place, and then these
--   WroteLines t m before after end == at the front stand the lines of a trace under the models up to m
--   Written text before after end   == at the front stands the output for a text
--   Reported text before after r    == what `report` promises: the output stands at the front and the rest is as before; where it does not fit, nothing is written
use Rattle.std.specs.Prelude.{◌≡◌, List, ◌++◌, ℕ, ◌+◌, ◌*◌, ◌≤◌, ◌<◌, length, take, drop}
use Rattle.trace.specs.declared.Trace.{Trace}
use Rattle.report.specs.Bounds.{VERDICT-LINE, REPORT}
use Rattle.report.specs.Report.{Lines, Prints}

pub record Wrote (before : List ℕ) (at : ℕ) (bytes after : List ℕ) (end : ℕ) : Type 0 where
  pub long : length after ≡ length before
  pub ends : end ≡ at + length bytes
  pub said : take end after ≡ take at before ++ bytes

pub record WroteLines (t : Trace) (m : ℕ) (before after : List ℕ) (end : ℕ) : Type 0 where
  pub out : List ℕ
  pub lines : Lines t m out
  pub wrote : Wrote before 0 out after end
  pub within : end ≤ m * VERDICT-LINE

pub record Written (text before after : List ℕ) (end : ℕ) : Type 0 where
  pub out : List ℕ
  pub prints : Prints text out
  pub wrote : Wrote before 0 out after end
  pub within : end ≤ REPORT

pub record Reported (text before after : List ℕ) (r : ℕ) : Type 0 where
  pub out : List ℕ
  pub prints : Prints text out
  pub within : length out ≤ REPORT
  pub fits : length out ≤ length before → (r ≡ length out) × (after ≡ out ++ drop (length out) before)
  pub short : length before < length out → (r ≡ 0) × (after ≡ before)
