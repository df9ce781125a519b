use Prim.Native.Nat.{◌+◌, ◌*◌, ◌≤◌}
use lib.ListN.{length, take}
use Rattle.report.specs.Bounds.{NUMBER}
use Rattle.report.specs.Report.{spaced}
use Rattle.report.specs.Wrote.{Wrote}
use Rattle.report.proofs.pieces.put_rules.Given as goal

abbrev pub invariant-loop-rule : goal.invariant-loop-rule
invariant-loop-rule l = (l.rule-index ≤ length l.rules) × (l.end ≤ l.at + NUMBER * l.rule-index) × Wrote l.initial.out l.at (spaced (take l.rule-index l.rules)) l.out l.end
