-- `reader::turns::begin`: length, ending, form, bounds, then the flag of its address.
use mathlib.Core.Path.{◌≡◌, refl, sym, ◌∙◌}
use mathlib.Core.Bool.{true, ◌&&◌}
use Prim.Native.Nat.{ℕ, ◌<◌}
use native.Mathlib.Omega.{arith}
use lib.Dec.{ltb}
use borrow.Author.Tests.{lt-ltb, le-ltb}
use Rattle.std.specs.Prelude.{Some, None}
use Rattle.laws.proofs.Tests.{and-iff, so-lt}
use Rattle.trace.specs.Bounds.{ADDRESSES, VALUES}
use Rattle.reader.specs.Bounds.{LINE}
use Rattle.reader.specs.LineForms.{init, init_of}
use Rattle.reader.specs.Answer.{beginning, init_given}
use Rattle.reader.proofs.Bounded.{beginning-cut, beginning-none}
use Rattle.reader.proofs.turns.begin.Goals.{After-init}
use Rattle.reader.proofs.turns.begin.Goals as goal

pub returns-then-bytes-gt-LINE : goal.returns-then-bytes-gt-LINE
unfolding init_given
returns-then-bytes-gt-LINE c = rw (lt-ltb LINE _ c.if-bytes-gt-LINE.true) refl

pub returns-then-not-ended : goal.returns-then-not-ended
unfolding init_given
returns-then-not-ended c = rw (le-ltb LINE _ c.if-bytes-gt-LINE.false, c.if-not-ended.true) refl

-- behind the tests of length and ending, the init line decides
decides : (c : After-init) → init_given c.args.given.now (record { bytes = c.args.bytes.now; ended = c.args.ended }) ≡ beginning c.args.given.now (init_of c.args.bytes.now)
unfolding init_given
decides c =
    let a = c.args in
    rw (le-ltb LINE _ c.if-bytes-gt-LINE.false, c.if-not-ended.false) refl

pub returns-in_err-addr : goal.returns-in_err-addr
returns-in_err-addr c =
    let a = c.args in
    c.from_residual.ensures ∙ beginning-none a.given.now (init_of a.bytes.now) (sym c.in_err-addr.was ∙ c.init.ensures) ∙ sym (decides (goal.at.returns-in_err-addr c).After-init)

-- an address that passes the tests has a flag
below : (a v : ℕ) → (ltb a ADDRESSES && ltb v VALUES) ≡ true → a < ADDRESSES
below a v h = ((and-iff (so-lt {m = a} {n = ADDRESSES}) (so-lt {m = v} {n = VALUES})).0 h).0

pub bounds-given-i : goal.bounds-given-i
bounds-given-i c = omega (arith, below c.in_ok-addr.field-0.addr c.in_ok-addr.field-0.value c.if-addr-addresses.true)

pub returns-then-not-given-i : goal.returns-then-not-given-i
returns-then-not-given-i c =
    let a = c.args in
    let q : Some (init c.in_ok-addr.field-0.addr c.in_ok-addr.field-0.value) ≡ beginning a.given.now (Some (init c.in_ok-addr.field-0.addr c.in_ok-addr.field-0.value)) = rw (c.if-addr-addresses.true, c.if-not-given-i.true) refl in
    q ∙ beginning-cut a.given.now (init_of a.bytes.now) _ _ (sym c.in_ok-addr.was ∙ c.init.ensures) ∙ sym (decides (goal.at.returns-then-not-given-i c).After-init)

pub returns-else-not-given-i : goal.returns-else-not-given-i
returns-else-not-given-i c =
    let a = c.args in
    let q : None ≡ beginning a.given.now (Some (init c.in_ok-addr.field-0.addr c.in_ok-addr.field-0.value)) = rw (c.if-addr-addresses.true, c.if-not-given-i.false) refl in
    q ∙ beginning-cut a.given.now (init_of a.bytes.now) _ _ (sym c.in_ok-addr.was ∙ c.init.ensures) ∙ sym (decides (goal.at.returns-else-not-given-i c).After-init)

pub returns-else-addr-addresses : goal.returns-else-addr-addresses
returns-else-addr-addresses c =
    let a = c.args in
    let q : None ≡ beginning a.given.now (Some (init c.in_ok-addr.field-0.addr c.in_ok-addr.field-0.value)) = rw c.if-addr-addresses.false refl in
    q ∙ beginning-cut a.given.now (init_of a.bytes.now) _ _ (sym c.in_ok-addr.was ∙ c.init.ensures) ∙ sym (decides (goal.at.returns-else-addr-addresses c).After-init)
