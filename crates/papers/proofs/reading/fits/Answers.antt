-- `reading::fits`: the rows hold the one pair that the link joins.
use mathlib.Core.Path.{◌≡◌, sym, ap, ap₂, ◌∙◌, fun_ext}
use mathlib.Core.Bool.{◌&&◌}
use native.Mathlib.Omega.{arith}
use Rattle.trace.specs.Meaning.{frame_of}
use Rattle.pairs.specs.Kept.{kept_of}
use Rattle.rules.specs.Rules.{nothing}
use Rattle.rules.specs.RuleTests.{gives?}
use Rattle.rows.specs.Bounds.{CELLS}
use Rattle.rows.specs.Rows.{bit}
use Rattle.rows.specs.Put.{put_of}
use Rattle.rows.specs.Empty.{empty_of}
use Rattle.papers.specs.inner.ReaderBranch.{link_joins}
use Rattle.std.specs.Prelude.{Some}
use Rattle.papers.proofs.Branches.{joins-bit, no-bit}
use Rattle.papers.proofs.reading.fits.Goals as goal

pub returns-then-not-may : goal.returns-then-not-may
returns-then-not-may c =
    let s = c.args in
    sym (ap (λ b. b && gives? (frame_of s.t) (kept_of s.model s.t) nothing (link_joins s.l) s.x s.y s.rule) (c.if-not-may.true))

pub returns-in_default : goal.returns-in_default
returns-in_default c =
    let s = c.args in
    c.gives.ensures
    ∙ ap (λ C. gives? (frame_of s.t) (kept_of s.model s.t) nothing C s.x s.y s.rule)
    (fun_ext (λ x. fun_ext (λ y. ap (λ r. bit r x y) c.empty-chain.ensures ∙ no-bit CELLS x y ∙ ap (λ l. link_joins l x y) (sym c.in_default.is))))
    ∙ sym (ap (λ b. b && gives? (frame_of s.t) (kept_of s.model s.t) nothing (link_joins s.l) s.x s.y s.rule) (c.if-not-may.false))

pub returns : goal.returns
returns c =
    let s = c.args in
    let w = c.wide.result in
    let v = c.wide-2.result in
    let e : c.put.new.rows ≡ put_of (empty_of CELLS) w v = c.put.ensures ∙ ap (λ r. put_of r w v) c.empty-chain.ensures in
    let k : s.l ≡ Some (w, v) = c.in-Some.is ∙ ap₂ (λ a b. Some (a, b)) (sym c.wide.ensures) (sym c.wide-2.ensures) in
    c.gives-2.ensures
    ∙ ap (λ C. gives? (frame_of s.t) (kept_of s.model s.t) nothing C s.x s.y s.rule) (fun_ext (λ x. fun_ext (λ y. ap (λ r. bit r x y) e ∙ joins-bit w v CELLS (omega arith) x y ∙ ap (λ l. link_joins l x y) (sym k))))
    ∙ sym (ap (λ b. b && gives? (frame_of s.t) (kept_of s.model s.t) nothing (link_joins s.l) s.x s.y s.rule) (c.if-not-may.false))
