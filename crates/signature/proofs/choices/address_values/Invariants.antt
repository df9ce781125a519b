use Prim.Native.Nat.{◌≤◌}
use Rattle.signature.specs.inner.ValuesLaid.{ValuesPut}
use Rattle.signature.proofs.choices.address_values.Given as goal

abbrev pub invariant-loop-i : goal.invariant-loop-i
invariant-loop-i l = (l.i ≤ l.t.len) × ValuesPut l.t l.addr l.i l.of l.own l.count
