use mathlib.Core.Path.{◌≡◌}
use mathlib.Core.List.{List, ◌++◌}
use Prim.Native.Nat.{ℕ, ◌+◌, ◌*◌, ◌≤◌}
use lib.ListN.{length, drop}
use Rattle.text.specs.Template.{fill}
use Rattle.report.specs.Bounds.{VALUE}
use Rattle.report.specs.Wrote.{Wrote}
use Rattle.report.proofs.render.put_form.Given as goal

abbrev pub invariant-loop-b : goal.invariant-loop-b
invariant-loop-b l = (l.b-index ≤ length l.form) × (l.n ≤ l.b-index) × (l.end ≤ l.at + VALUE * l.b-index) × ((done : List ℕ) × (done ++ fill (drop l.b-index l.form) (drop l.n l.numbers) ≡ fill l.form l.numbers) × Wrote l.initial.out l.at done l.out l.end)
