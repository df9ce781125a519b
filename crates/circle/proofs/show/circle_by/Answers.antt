-- `show::circle_by`: the circle of the last round is laid, found among the edges between records on circles, and then its rules.
use mathlib.Core.Path.{refl}
use Rattle.rows.specs.Bounds.{CELLS}
use Rattle.rows.specs.Lent.{lent_of}
use Rattle.circle.proofs.CircleOf.{circle-none-of, ring_laid, circle-laid}
use Rattle.circle.proofs.show.circle_by.Goals as goal

pub returns-then-last : goal.returns-then-last
returns-then-last c =
    let a = c.args in
    let K = lent_of a.t a.kept.now in
    let last = c.last_round_by-last.result in
    let shown = ring_laid a.t K CELLS _ last refl c.last_round_by-last.ensures _ _ _ c.if-last.true c.lay_ring.ensures c.shown-len.ensures in
    circle-laid a.t K CELLS _ last refl c.last_round_by-last.ensures _ _ c.if-last.true shown refl c.name_rules.ensures

pub returns : goal.returns
returns c =
    let a = c.args in
    circle-none-of a.t (lent_of a.t a.kept.now) CELLS _ c.last_round_by-last.result refl c.last_round_by-last.ensures c.if-last.false _ refl refl refl
