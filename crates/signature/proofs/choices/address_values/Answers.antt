-- `signature::choices::address_values`: what the first i records wrote to the address stands behind what was written below it.
use mathlib.Core.Path.{◌≡◌, sym, ap, ap₂, ◌∙◌}
use mathlib.Core.Bool.{Bool, ◌&&◌}
use Prim.Native.Nat.{ℕ, ◌+◌, ◌<◌}
use native.Mathlib.Omega.{arith}
use lib.Dec.{eqb}
use lib.ListN.{set}
use Rattle.trace.specs.Bounds.{RECORDS}
use Rattle.signature.specs.inner.ValuesLaid.{writer_to}
use Rattle.signature.proofs.ValuesLaid.{put-like, put-room, put_on, put-off, put_next, laid_on}
use Rattle.signature.proofs.choices.address_values.Goals.{After-address, Then-writes-address, else-writes-address, then-writes-address}
use Rattle.signature.proofs.choices.address_values.Goals as goal

-- the code's test is the definition's
told : (c : After-address) → (c.writes.result && eqb c.address.result c.args.addr) ≡ writer_to c.args.t c.args.addr c.loop-i.i
unfolding writer_to
told c = ap₂ (λ (b : Bool) (a : ℕ). b && eqb a c.args.addr) c.writes.ensures c.address.ensures

-- a writer of the address has a place
room : (c : Then-writes-address) → c.loop-i.count < RECORDS
room c =
    let l = c.loop-i in
    put-room c.args.t c.requires.0 c.args.addr l.i l.of l.own l.count l.invariant.1 c.loop-i-test.true (sym (told c.before) ∙ c.if-writes-address.true)

pub loop-i-init : goal.loop-i-init
loop-i-init c = (omega arith, c.requires.2.put)

pub offset_bounds-of-count : goal.offset_bounds-of-count
offset_bounds-of-count c = omega (arith, room (goal.at.offset_bounds-of-count c).Then-writes-address)

pub bounds-of-count : goal.bounds-of-count
bounds-of-count c = omega (arith, room (goal.at.bounds-of-count c).Then-writes-address)

pub bounds-own-i : goal.bounds-own-i
bounds-own-i c = omega (arith, c.loop-i-test.true, c.requires.0)

pub overflow_add-count : goal.overflow_add-count
overflow_add-count c = omega (arith, room (goal.at.overflow_add-count c).Then-writes-address)

pub loop-i-preserved : goal.loop-i-preserved
loop-i-preserved c =
    let t = c.args.t in
    let a = c.args.addr in
    let l = c.loop-i in (
      omega (arith, c.loop-i-test.true),
      (elim c.if-writes-address.branch [
        | then-writes-address u ↦ put-like t a (l.i + 1) _ _ _ _ _ _ (u.of-is ∙ ap (set l.of l.count) u.written.ensures) u.own-is u.count-is
            (put_on t c.requires.0 a l.i l.of l.own l.count l.invariant.1 c.loop-i-test.true (sym (told (goal.at.loop-i-preserved c).After-address) ∙ u.if-writes-address.true))
        | else-writes-address u ↦ put-like t a (l.i + 1) _ _ _ _ _ _ u.of-is u.own-is u.count-is
            (put-off t c.requires.0 a l.i l.of l.own l.count l.invariant.1 (sym (told (goal.at.loop-i-preserved c).After-address) ∙ u.if-writes-address.false))
      ]),
    )

pub returns : goal.returns
returns c =
    let l = c.loop-i in
    laid_on c.args.t c.args.addr c.args.x c.requires.1 c.requires.2 l.of l.own l.count
    (put_next c.args.t c.requires.0 c.args.addr l.i l.of l.own l.count l.invariant.1 c.loop-i-test.false l.invariant.0)
