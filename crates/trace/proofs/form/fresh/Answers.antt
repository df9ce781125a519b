-- `trace::form::fresh` meets its contract: each way rewrites with the tests that led there. Assumes nothing.
use mathlib.Core.Path.{◌≡◌}
use mathlib.Core.Bool.{true, false}
use borrow.Author.Tests.{eq-eqb, ne_eqb}
use Rattle.trace.specs.Op.{address, written, writes}
use Rattle.trace.specs.Trace.{first}
use Rattle.trace.specs.WellFormed.{fresh, written_before}
use Rattle.trace.proofs.form.fresh.Goals as goal

pub returns-then-value-first : goal.returns-then-value-first
unfolding fresh
returns-then-value-first c =
    let k = c.args in
    let w : writes k.op ≡ true = cc in
    let e : written k.op ≡ first k.t (address k.op) = cc in
    simp (w, eq-eqb _ _ e)

pub returns-then-writes : goal.returns-then-writes
unfolding fresh
returns-then-writes c =
    let k = c.args in
    let w : writes k.op ≡ true = cc in
    let b : c.written_before.result ≡ written_before k.t k.n (address k.op) (written k.op) = cc in
    let d : written k.op ≡ first k.t (address k.op) → ⊥ = λ e. c.if-value-first.false (cc) in
    simp (w, ne_eqb _ _ d, b)

pub returns : goal.returns
unfolding fresh
returns c =
    let w : writes c.args.op ≡ false = cc in
    simp w
