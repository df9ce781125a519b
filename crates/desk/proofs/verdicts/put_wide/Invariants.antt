use mathlib.Core.Path.{◌≡◌}
use Prim.Native.Nat.{◌≤◌}
use lib.ListN.{length, take}
use Rattle.text.specs.Room.{put_at}
use Rattle.desk.specs.VerdictBytes.{wide}
use Rattle.desk.proofs.verdicts.put_wide.Given as goal

abbrev pub invariant-loop-i : goal.invariant-loop-i
invariant-loop-i l = (l.i ≤ length l.numbers) × (l.out ≡ put_at (wide (take l.i l.numbers)) l.initial.out l.at)
