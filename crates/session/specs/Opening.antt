-- When a session can be opened.
--
--   opening_of t m == whether a session on a trace under a model can be opened, and why not; the lowest number that applies
--   is_done a      == nothing was turned back
--   openable t m  == a session can be opened
use Rattle.std.specs.Prelude.{Bool, true, false, cond, ℕ}
use Rattle.trace.specs.WellFormed.{well_formed}
use Rattle.trace.specs.declared.Trace.{Trace}
use Rattle.pairs.specs.Kept.{modelled}
use Rattle.session.specs.declared.Reason.TheVariants.{NoModel, NotWellFormed}
use Rattle.session.specs.declared.Answer.{Answer}
use Rattle.session.specs.declared.Answer.TheVariants.{Done, Held, NotHeld, Contradicted, Waits, Refused}

unfoldable pub opening_of : Trace → ℕ → Answer
opening_of t m = cond (modelled m) (cond (well_formed t) Done (Refused NotWellFormed)) (Refused NoModel)

abbrev pub is_done : Answer → Bool
is_done Done = true
is_done Held = false
is_done NotHeld = false
is_done Contradicted = false
is_done (Waits x) = false
is_done (Refused r) = false

unfoldable pub openable : Trace → ℕ → Bool
openable t m = is_done (opening_of t m)
