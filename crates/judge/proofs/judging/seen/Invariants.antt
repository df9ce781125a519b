use mathlib.Core.Path.{◌≡◌}
use Prim.Native.Nat.{◌≤◌}
use lib.ListN.{length, get_or}
use Rattle.laws.specs.Latest.{last_of}
use Rattle.trace.specs.Meaning.{frame_of}
use Rattle.rules.specs.Seen.{visible?}
use Rattle.judge.proofs.judging.seen.Given as goal

abbrev pub invariant-loop-i : goal.invariant-loop-i
invariant-loop-i l = (l.i ≤ length l.list) × (l.value ≡ last_of (λ j. visible? (frame_of l.t) l.list j l.load) (λ j. (frame_of l.t).written (get_or l.list j 0)) ((frame_of l.t).first ((frame_of l.t).address l.load)) l.i)
