-- `search::seek::known`: a part of the memory that is the set.
use Prim.Native.Nat.{◌+◌, ◌-◌, ◌*◌}
use native.Mathlib.Omega.{arith}
use Rattle.rows.specs.Bounds.{WORDS}
use Rattle.search.proofs.DeadSets.{has_part}
use Rattle.search.proofs.seek.known.Goals as goal

pub returns : goal.returns
returns c = let a = c.args in
    let r = c.slot-from.result in
    λ t. has_part a.dead.now a.set.now r (r * WORDS + WORDS - r * WORDS) c.slot-from.ensures (omega arith) (c.equal.ensures.0 t)
