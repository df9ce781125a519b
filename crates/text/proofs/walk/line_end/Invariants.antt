use mathlib.Core.Path.{◌≡◌}
use Rattle.text.specs.Lines.{end_at}
use Rattle.text.proofs.walk.line_end.Given as goal

abbrev pub invariant-loop-i : goal.invariant-loop-i
invariant-loop-i l = end_at l.text l.at ≡ end_at l.text l.i
