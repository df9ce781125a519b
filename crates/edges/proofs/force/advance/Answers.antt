-- `edges::force::advance`: the next round is drawn aside, and taken over where it differs.
use mathlib.Core.Path.{refl, ◌∙◌, sym}
use mathlib.Core.Bool.{false≢true}
use mathlib.Core.List.{List}
use Prim.Native.Nat.{ℕ}
use Rattle.rows.specs.Bounds.{CELLS}
use Rattle.rows.specs.Empty.{empty_of}
use Rattle.rows.proofs.Whole.{copy-same}
use Rattle.laws.specs.Relation.{Rel}
use Rattle.edges.specs.inner.PairSets.{Union}
use Rattle.edges.specs.inner.DrawnEdges.{SettledFor}
use Rattle.edges.specs.inner.RoundStep.{stays, grows}
use Rattle.edges.proofs.LastRound.{stayed-at, grown-at}
use Rattle.edges.proofs.force.advance.Goals as goal

-- what rules 6 and 7 give from the chains h
abbrev drawn : ℕ → List ℕ → List ℕ → List ℕ → Rel
drawn n s w h = Union n (SettledFor n s w h)

pub returns-then-equal : goal.returns-then-equal
returns-then-equal c =
    stays refl refl (stayed-at c.args.edges.now (empty_of CELLS) c.copy.new.to c.draw_settled.new.edges (drawn c.args.n c.args.sources.now c.args.writers.now c.args.chains.now) c.requires.4 refl c.copy.ensures c.draw_settled.ensures (c.equal.ensures.0 c.if-equal.true))

pub returns : goal.returns
returns c =
    let g = grown-at c.args.edges.now (empty_of CELLS) c.copy.new.to c.draw_settled.new.edges (drawn c.args.n c.args.sources.now c.args.writers.now c.args.chains.now) c.requires.4 refl c.copy.ensures c.draw_settled.ensures _ c.copy-3.ensures (λ e. false≢true (sym c.if-equal.false ∙ c.equal.ensures.1 e)) in
    grows (c.copy-2.ensures ∙ copy-same c.args.chains.now c.args.before.now (c.requires.2 ∙ sym c.requires.3)) g.0 g.1
