-- One removal. A set of records is a test on their numbers; f is the frame of the trace that they are of.
--
--   Set         == some records of a trace
--   every       == all of them
--   Goes f i x  == x goes where i goes: it is i, or it reads from what goes
use Rattle.std.specs.Prelude.{◌≡◌, ◌⊎◌, Bool, true, ℕ}
use Rattle.laws.specs.Relation.{Rel, Chain}
use Rattle.rules.specs.Frame.{Frame, Source}

abbrev pub Set : Type 0
Set = ℕ → Bool

abbrev pub every : Set
every x = true

abbrev pub Goes : Frame → Rel
Goes f i x = (i ≡ x) ⊎ Chain (Source f) i x
