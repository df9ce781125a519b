use Prim.Native.Nat.{◌≤◌}
use Rattle.trace.specs.Bounds.{ADDRESSES}
use Rattle.signature.specs.inner.ValuesLaid.{ValuesLaid}
use Rattle.signature.proofs.choices.all_values.Given as goal

abbrev pub invariant-loop-addr : goal.invariant-loop-addr
invariant-loop-addr l = (l.addr ≤ ADDRESSES) × ValuesLaid l.t l.addr l.built
