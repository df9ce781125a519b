-- What is kept of a line fits its room.
use Rattle.std.proofs.Common.{length, ◌≤◌}
use Rattle.talk.proofs.hear.Given as goal

abbrev pub invariant-loop-b : goal.invariant-loop-b
invariant-loop-b l = l.count ≤ length l.line
