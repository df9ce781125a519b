-- `edges::closed::take`: the pair is taken in, or it is there.
use mathlib.Core.Path.{sym, ◌∙◌, subst}
use Prim.Native.Nat.{ℕ}
use borrow.Author.Tests.{not-false}
use Rattle.rows.specs.Rows.{Edges}
use Rattle.edges.specs.inner.ClosedTables.{OnePair}
use Rattle.edges.proofs.ClosedTables.{joins-old, joins-span}
use Rattle.edges.proofs.closed.take.Goals as goal

pub returns-then-not-test : goal.returns-then-not-test
returns-then-not-test c =
    let a = c.args in
    joins-span a.edges.now a.turned.now a.a a.b _ _ c.span.ensures

pub returns-else-not-test : goal.returns-else-not-test
returns-else-not-test c =
    let a = c.args in
    let there = sym c.test.ensures ∙ not-false _ c.if-not-test.false-raw in
    joins-old a.edges.now a.turned.now (OnePair a.a a.b) (λ x y u. subst (λ (i : ℕ). Edges a.edges.now i y) (sym u.0) (subst (Edges a.edges.now a.a) (sym u.1) there))
