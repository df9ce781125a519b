-- What is kept of a line fits its room.
use Rattle.std.proofs.Common.{◌≤◌}
use Rattle.talk.proofs.listen.Given as goal

abbrev pub invariant-loop : goal.invariant-loop
invariant-loop l = l.count ≤ 81
