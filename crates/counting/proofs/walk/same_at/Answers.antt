use mathlib.Core.Path.{sym, ◌∙◌}
use Prim.Native.Nat.{◌+◌, ◌-◌, ◌*◌}
use native.Mathlib.Omega.{arith}
use Rattle.rows.specs.Bounds.{WORDS}
use Rattle.counting.proofs.Slots.{slot-part}
use Rattle.counting.proofs.walk.same_at.Goals as goal

pub returns : goal.returns
returns c = let a = c.args in
    λ t. sym (slot-part a.memory.now a.h (a.h * WORDS + WORDS - a.h * WORDS) (omega arith)) ∙ c.equal.ensures.0 t
