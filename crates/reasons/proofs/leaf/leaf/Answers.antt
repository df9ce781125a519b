-- `leaf::leaf`: the circle that is laid is the one that closes the branch.
use mathlib.Core.Path.{sym, subst}
use mathlib.Core.List.{List}
use native.Mathlib.Omega.{arith}
use Rattle.papers.specs.Paper.{Entry, spell}
use Rattle.papers.specs.inner.ReaderBranch.{branch_of}
use Rattle.papers.proofs.Branches.{branch-long}
use Rattle.reasons.specs.inner.PutKept.{PutKept}
use Rattle.reasons.proofs.Leaves.{leaf-empty, leaf-closes, leaf-short}
use borrow.Author.Rules.{rules}
use Rattle.reasons.proofs.leaf.leaf.Goals as goal

pub returns-then-n-eq0 : goal.returns-then-n-eq0
returns-then-n-eq0 c =
    let a = c.args in
    leaf-empty a.t a.model a.supposed.now (branch_of a.from.now a.to.now a.count) c.requires.0 c.requires.1 c.requires.2 c.requires.3 c.last_round-last.result c.last_round-last.ensures c.shown-n.result _ c.shown-n.ensures c.if-n-eq0.true a.limit a.from.now a.to.now a.count a.out.now a.at c.requires.5

pub close-requires : goal.close-requires
close-requires c =
    let a = c.args in record { lengths = (c.requires.0, c.requires.1, search rules, omega (arith, c.shown-n.ensures.fits), c.requires.5, c.requires.6, c.requires.7); branch = (c.requires.2, omega (arith, branch-long a.from.now a.to.now a.count, leaf-short a.t a.model a.supposed.now (branch_of a.from.now a.to.now a.count) c.requires.0 c.requires.1 c.requires.2 c.requires.3 c.last_round-last.result c.last_round-last.ensures c.shown-n.result _ c.shown-n.ensures c.requires.4 (omega (arith, c.if-n-eq0.false)))) }

pub returns : goal.returns
returns c =
    let a = c.args in
    subst (λ (es : List Entry). PutKept a.limit a.from.now a.to.now a.count a.out.now a.at (spell es) c.close.new.from c.close.new.to c.close.new.out c.close.result)
    (sym (leaf-closes a.t a.model a.supposed.now (branch_of a.from.now a.to.now a.count) c.requires.0 c.requires.1 c.requires.2 c.requires.3 c.last_round-last.result c.last_round-last.ensures c.shown-n.result _ c.shown-n.ensures (omega (arith, c.if-n-eq0.false)))) c.close.ensures
