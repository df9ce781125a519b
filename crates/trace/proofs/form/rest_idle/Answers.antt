-- `trace::form::rest_idle` meets its contract. The invariant: each place passed is used or idle. Assumes nothing.
use mathlib.Core.Path.{◌≡◌, sym, ◌∙◌}
use mathlib.Core.Bool.{true}
use lib.Dec.{leb}
use native.Mathlib.Omega.{arith}
use borrow.Author.Tests.{not-true, not-false, le-leb, lt-leb}
use Rattle.laws.proofs.Loops.{all_more, all-stops, all-fewer}
use Rattle.laws.proofs.Tests.{so-all}
use Rattle.trace.proofs.form.rest_idle.Goals as goal

pub loop-i-init : goal.loop-i-init
loop-i-init c =
    let n = c.args.t.len in
    (omega arith, (so-all n _).1 (λ i h. simp (lt-leb n i h)))

pub returns-then-not-is_idle : goal.returns-then-not-is_idle
returns-then-not-is_idle c =
    let e : leb c.args.t.len c.loop-i.i ≡ true = le-leb _ _ c.loop-i.invariant.0 in
    sym (all-stops _ _ _ c.loop-i-test.true (simp e (sym c.is_idle.ensures ∙ not-true _ c.if-not-is_idle.true-raw)))

pub loop-i-preserved : goal.loop-i-preserved
loop-i-preserved c =
    let e : leb c.args.t.len c.loop-i.i ≡ true = le-leb _ _ c.loop-i.invariant.0 in
    (omega arith, all_more _ _ c.loop-i.invariant.1 (simp e (sym c.is_idle.ensures ∙ not-false _ c.if-not-is_idle.false-raw)))

pub returns : goal.returns
returns c = sym (all-fewer _ _ _ c.loop-i-test.false c.loop-i.invariant.1)
