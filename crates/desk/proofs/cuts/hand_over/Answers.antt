-- `desk::cuts::hand_over`: the text of what is left is made first, then it is seen whether all fits. That the old numbers have all their places is told
-- by owning them.
use mathlib.Core.Path.{◌≡◌, sym, ap, ap₂, ◌∙◌}
use mathlib.Core.List.{List, ◌∷◌, ◌++◌}
use Prim.Native.Nat.{ℕ}
use native.Mathlib.Omega.{arith}
use lib.ListN.{length, take}
use Rattle.trace.specs.Bounds.{RECORDS}
use Rattle.text.specs.Room.{put_at}
use Rattle.reader.specs.TextOf.{render_trace}
use Rattle.desk.specs.VerdictBytes.{wide}
use Rattle.desk.specs.Cuts.{left_bytes}
use Rattle.desk.proofs.Leaving.{lines-there, no-space, space}
use Rattle.desk.proofs.cuts.hand_over.Goals.{After-render-n, Start}
use Rattle.desk.proofs.cuts.hand_over.Goals as goal

all-olds : (c : Start) → length c.args.s.olds ≡ RECORDS
all-olds c = c.well_formed.0.1.1.1.1.0.1.0.1

-- the text of what is left stands at the front of its buffer
there : (c : After-render-n) → let t = render_trace c.args.s.trace in
    (c.render-n.result ≡ length t) × (take c.render-n.result c.render-n.new.out ≡ t)
there c = lines-there _ _ _ c.render-n.ensures.2 c.render-n.ensures.0 c.render-n.ensures.1

pub overflow_add-n : goal.overflow_add-n
overflow_add-n c = omega (arith, (there (goal.at.overflow_add-n c).After-render-n).0, c.render-n.ensures.2)

pub returns-then-out-n : goal.returns-then-out-n
returns-then-out-n c =
    no-space c.args.s (all-olds (goal.at.returns-then-out-n c).Start) c.args.out.now (omega (arith, (there (goal.at.returns-then-out-n c).After-render-n).0, c.if-out-n.true))

pub slice_bounds-lines-end : goal.slice_bounds-lines-end
slice_bounds-lines-end c = omega (arith, (there (goal.at.slice_bounds-lines-end c).After-render-n).0, c.render-n.ensures.2)

pub slice_bounds-lay-end-2 : goal.slice_bounds-lay-end-2
slice_bounds-lay-end-2 c = (there (goal.at.slice_bounds-lay-end-2 c).After-render-n).0 ∙ sym (ap length (there (goal.at.slice_bounds-lay-end-2 c).After-render-n).1)

pub lay-requires : goal.lay-requires
lay-requires c = (
  omega (arith, c.heading.ensures, c.requires),
  omega (arith, ap length (there (goal.at.lay-requires c).After-render-n).1, c.render-n.ensures.2),
  all-olds (goal.at.lay-requires c).Start,
  omega (arith, ap length (there (goal.at.lay-requires c).After-render-n).1, (there (goal.at.lay-requires c).After-render-n).0, c.if-out-n.false),
)

pub returns : goal.returns
unfolding left_bytes
returns c =
    let a = c.args in (
      c.smaller_number.ensures ∙ space a.s (all-olds (goal.at.returns c).Start) a.out.now (omega (arith, (there (goal.at.returns c).After-render-n).0, c.if-out-n.false)),
      c.lay.ensures ∙ ap₂ (λ (k : ℕ) (t : List ℕ). put_at (wide (k ∷ length t ∷ a.s.olds) ++ t) a.out.now 0) c.heading.ensures (there (goal.at.returns c).After-render-n).1,
    )
