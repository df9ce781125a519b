-- `rows::reflexive`: no number below x is in a pair with itself.
use mathlib.Core.Path.{sym, ◌∙◌}
use mathlib.Core.Bool.{false≢true}
use native.Mathlib.Omega.{arith}
use borrow.Author.Rules.{rules}
use Rattle.laws.proofs.Tests.{off, so-any}
use Rattle.trace.specs.Bounds.{RECORDS}
use Rattle.rows.proofs.reflexive.Goals as goal

pub returns-then-test : goal.returns-then-test
returns-then-test c =
    let l = c.loop-x in
    sym ((so-any RECORDS _).1 (l.x, search rules, sym c.test.ensures ∙ c.if-test.true))

pub returns : goal.returns
returns c =
    let l = c.loop-x in
    sym (off (λ t. let s = (so-any RECORDS _).0 t in false≢true (sym (l.invariant.1 s.0 (omega arith)) ∙ s.2)))
