use Rattle.std.proofs.Common.{length, ◌-◌}
use Rattle.paper.proofs.lines.say_lines.Given as goal

abbrev pub decreases-loop-at : goal.decreases-loop-at
decreases-loop-at l = length l.list - l.at
