-- `signature::choices::all_values`: what was written to the addresses below this one is laid.
use Prim.Native.Nat.{ℕ}
use native.Mathlib.Omega.{arith}
use mathlib.Core.Path.{◌≡◌, subst}
use Rattle.trace.specs.Bounds.{ADDRESSES}
use Rattle.signature.specs.inner.ValuesLaid.{ValuesLaid}
use Rattle.signature.proofs.ValuesLaid.{put-none}
use Rattle.signature.proofs.choices.all_values.Goals as goal

pub loop-addr-init : goal.loop-addr-init
loop-addr-init c = (omega arith, put-none c.args.t c.requires)

pub address_values-built-requires : goal.address_values-built-requires
address_values-built-requires c = (c.requires, c.loop-addr-test.true, c.loop-addr.invariant.1)

pub loop-addr-preserved : goal.loop-addr-preserved
loop-addr-preserved c = (omega arith, c.address_values-built.ensures)

pub returns : goal.returns
returns c = let e : c.loop-addr.addr ≡ ADDRESSES = omega (arith, c.loop-addr-test.false, c.loop-addr.invariant.0) in subst (λ (a : ℕ). ValuesLaid c.args.t a c.loop-addr.built) e c.loop-addr.invariant.1
