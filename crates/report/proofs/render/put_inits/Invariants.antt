use mathlib.Core.Path.{◌≡◌}
use mathlib.Core.List.{List, ◌++◌}
use Prim.Native.Nat.{ℕ, ◌*◌, ◌-◌, ◌≤◌}
use Rattle.trace.specs.Bounds.{ADDRESSES}
use Rattle.reader.specs.TextOf.{render_inits, inits_from, inits_of}
use Rattle.report.specs.Bounds.{RECORD-LINE}
use Rattle.report.specs.Wrote.{Wrote}
use Rattle.report.proofs.render.put_inits.Given as goal

abbrev pub invariant-loop-addr : goal.invariant-loop-addr
invariant-loop-addr l = (l.addr ≤ ADDRESSES) × (l.end ≤ RECORD-LINE * l.addr) × ((done : List ℕ) × (done ++ render_inits (inits_from l.t l.addr (ADDRESSES - l.addr)) ≡ render_inits (inits_of l.t)) × Wrote l.initial.out 0 done l.out l.end)
