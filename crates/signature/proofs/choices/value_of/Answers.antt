-- `signature::choices::value_of`: what was written to the address stands from one place on, and the load's own value is passed over.
use mathlib.Core.Path.{◌≡◌, ap, ◌∙◌}
use Prim.Native.Nat.{ℕ, ◌+◌, ◌-◌, ◌<◌, ◌≤◌}
use native.Mathlib.Omega.{arith}
use lib.ListN.{get_or}
use Rattle.trace.specs.Bounds.{RECORDS}
use Rattle.trace.specs.Trace.{first}
use Rattle.signature.specs.Reads.{value_of}
use Rattle.signature.proofs.ValuesLaid.{value-zero, value_room, value-past, value-here}
use Rattle.signature.proofs.choices.value_of.Goals.{Else-digit-eq0}
use Rattle.signature.proofs.choices.value_of.Goals as goal

-- where the value stands among what was written, but for the load's own
abbrev place : Else-digit-eq0 → ℕ
place e = get_or e.args.x.start e.address-addr.result 0 + (e.args.digit - 1)

some : (e : Else-digit-eq0) → 0 < e.args.digit
some e = omega (arith, e.if-digit-eq0.false)

room : (e : Else-digit-eq0) → place e < RECORDS
room e = let a = e.args in value_room a.t a.load e.requires.1 e.requires.0 e.requires.2 a.x e.requires.3 e.address-addr.result e.address-addr.ensures a.digit (some e) e.requires.4

past : (e : Else-digit-eq0) → get_or e.args.x.own e.args.load 0 ≤ place e → (place e + 1 < RECORDS) × (get_or e.args.x.of (place e + 1) 0 ≡ value_of e.args.t e.args.load e.args.digit)
past e = let a = e.args in value-past a.t a.load e.requires.1 e.requires.0 e.requires.2 a.x e.requires.3 e.address-addr.result e.address-addr.ensures a.digit (some e) e.requires.4

here : (e : Else-digit-eq0) → place e < get_or e.args.x.own e.args.load 0 → get_or e.args.x.of (place e) 0 ≡ value_of e.args.t e.args.load e.args.digit
here e = let a = e.args in value-here a.t a.load e.requires.1 e.requires.0 e.requires.2 a.x e.requires.3 e.address-addr.result e.address-addr.ensures a.digit (some e) e.requires.4

pub returns-then-digit-eq0 : goal.returns-then-digit-eq0
returns-then-digit-eq0 c = c.first.ensures ∙ ap (first c.args.t) c.address-addr.ensures ∙ value-zero c.args.t c.args.load c.requires.1 c.args.digit c.if-digit-eq0.true

pub overflow_add-place : goal.overflow_add-place
overflow_add-place c = omega (arith, room (goal.at.overflow_add-place c).Else-digit-eq0)

pub overflow_add-result : goal.overflow_add-result
overflow_add-result c = omega (arith, (past (goal.at.overflow_add-result c).Else-digit-eq0 c.if-x-load.true).0)

pub offset_bounds-x-place : goal.offset_bounds-x-place
offset_bounds-x-place c = omega (arith, (past (goal.at.offset_bounds-x-place c).Else-digit-eq0 c.if-x-load.true).0)

pub bounds-x-place : goal.bounds-x-place
bounds-x-place c = omega (arith, (past (goal.at.bounds-x-place c).Else-digit-eq0 c.if-x-load.true).0)

pub returns-then-x-load : goal.returns-then-x-load
returns-then-x-load c = (past (goal.at.returns-then-x-load c).Else-digit-eq0 c.if-x-load.true).1

pub offset_bounds-x-place-2 : goal.offset_bounds-x-place-2
offset_bounds-x-place-2 c = omega (arith, room (goal.at.offset_bounds-x-place-2 c).Else-digit-eq0)

pub bounds-x-place-2 : goal.bounds-x-place-2
bounds-x-place-2 c = omega (arith, room (goal.at.bounds-x-place-2 c).Else-digit-eq0)

pub returns : goal.returns
returns c = here (goal.at.returns c).Else-digit-eq0 c.if-x-load.false
