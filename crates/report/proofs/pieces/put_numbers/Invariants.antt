use Prim.Native.Nat.{◌+◌, ◌*◌, ◌≤◌}
use lib.ListN.{length, take}
use Rattle.report.specs.Bounds.{NUMBER}
use Rattle.report.specs.Report.{spaced}
use Rattle.report.specs.Wrote.{Wrote}
use Rattle.report.proofs.pieces.put_numbers.Given as goal

abbrev pub invariant-loop-n : goal.invariant-loop-n
invariant-loop-n l = (l.n-index ≤ length l.list) × (l.end ≤ l.at + NUMBER * l.n-index) × Wrote l.initial.out l.at (spaced (take l.n-index l.list)) l.out l.end
