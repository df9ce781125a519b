use Prim.Native.Nat.{◌+◌, ◌*◌, ◌≤◌}
use lib.ListN.{take}
use Rattle.reader.specs.TextOf.{render_records}
use Rattle.report.specs.Bounds.{RECORD-LINE}
use Rattle.report.specs.Wrote.{Wrote}
use Rattle.report.proofs.render.put_records.Given as goal

abbrev pub invariant-loop-i : goal.invariant-loop-i
invariant-loop-i l = (l.i ≤ l.n) × (l.end ≤ l.at + RECORD-LINE * l.i) × Wrote l.initial.out l.at (render_records (take l.i l.t.records)) l.out l.end
