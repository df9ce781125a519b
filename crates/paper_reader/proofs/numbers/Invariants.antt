-- Only a number that has a place is counted.
use Rattle.std.proofs.Common.{length, ◌≤◌}
use Rattle.paper_reader.proofs.numbers.Given as goal

abbrev pub invariant-loop-word : goal.invariant-loop-word
invariant-loop-word l = l.count ≤ length l.list
