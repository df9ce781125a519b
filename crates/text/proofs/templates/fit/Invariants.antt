use mathlib.Core.Path.{◌≡◌}
use Prim.Native.Nat.{◌≤◌}
use lib.ListN.{length, drop}
use Rattle.text.specs.Template.{NUMBERS, found, fit_from, fitted}
use Rattle.text.proofs.templates.fit.Given as goal

abbrev pub invariant-loop-k : goal.invariant-loop-k
invariant-loop-k l = (l.k ≤ length l.template) × (l.n ≤ l.k) × (length l.numbers ≡ NUMBERS) × (fit_from l.n l.numbers (found (drop l.k l.template) (drop l.i l.line)) ≡ fitted l.template (drop l.at l.line))
