use mathlib.Core.Path.{◌≡◌}
use Prim.Native.Nat.{◌+◌, ◌≤◌, ◌<◌, ◌-◌}
use lib.ListN.{length, drop}
use Rattle.trace.specs.Trace.{empty}
use Rattle.text.specs.Lines.{lines}
use Rattle.reader.specs.BadLine.{line_start}
use Rattle.reader.specs.Read.{none, read_lines, read_inits}
use Rattle.reader.proofs.walked.Given as goal

abbrev pub invariant-loop-at : goal.invariant-loop-at
invariant-loop-at l = (l.line ≤ l.at + 1) × (0 < l.line) × (l.at < length l.text → l.at ≡ line_start l.text l.line) × (read_lines l.line l.trace (lines (drop l.at l.text)) ≡ read_inits 1 none empty (lines l.text))

abbrev pub decreases-loop-at : goal.decreases-loop-at
decreases-loop-at l = length l.text - l.at
