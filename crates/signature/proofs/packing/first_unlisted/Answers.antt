-- `signature::packing::first_unlisted`: none of those passed is one.
use mathlib.Core.Path.{◌≡◌, sym, ap, ap₂, ◌∙◌}
use mathlib.Core.Bool.{Bool, ◌&&◌}
use Rattle.signature.specs.Reads.{digit_of, unlisted}
use Rattle.laws.proofs.LowestLoops.{none_below, more-below, lowest-found, lowest-nothing}
use Rattle.signature.specs.SignatureAnswers.{read_in}
use Rattle.signature.specs.inner.LoadLists.{found_of}
use lib.Dec.{eqb}
use Rattle.signature.proofs.packing.first_unlisted.Goals.{After-range_of}
use Rattle.signature.proofs.packing.first_unlisted.Goals as goal

-- the code's test is the definition's
told : (c : After-range_of) → (c.reads.result && eqb c.digit_of-digit.result c.range_of.result) ≡ unlisted c.args.t (read_in c.args.t) c.loop-i.i
unfolding unlisted
told c =
    let t = c.args.t in
    ap₂ (λ (a : Bool) (b : Bool). a && b) c.reads.ensures (ap₂ eqb (c.digit_of-digit.ensures ∙ ap (digit_of t c.loop-i.i) c.read.ensures) c.range_of.ensures.0)

pub loop-i-init : goal.loop-i-init
loop-i-init c = none_below (unlisted c.args.t (read_in c.args.t))

pub returns-then-reads-digit : goal.returns-then-reads-digit
returns-then-reads-digit c =
    let t = c.args.t in
    ap found_of (sym (lowest-found (unlisted t (read_in t)) t.len c.loop-i.i c.loop-i.invariant c.loop-i-test.true (sym (told (goal.at.returns-then-reads-digit c).After-range_of) ∙ c.if-reads-digit.true)))

pub loop-i-preserved : goal.loop-i-preserved
loop-i-preserved c =
    let t = c.args.t in
    more-below (unlisted t (read_in t)) c.loop-i.i c.loop-i.invariant (sym (told (goal.at.loop-i-preserved c).After-range_of) ∙ c.if-reads-digit.false)

pub returns : goal.returns
returns c = let t = c.args.t in ap found_of (sym (lowest-nothing (unlisted t (read_in t)) t.len c.loop-i.i c.loop-i.invariant c.loop-i-test.false))
