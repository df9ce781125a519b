-- `report::render::render`: the text is written elsewhere first, and put into the buffer where it fits.
use mathlib.Core.Path.{◌≡◌, sym, ap, ◌∙◌}
use mathlib.Core.List.{List}
use Prim.Native.Nat.{ℕ}
use native.Mathlib.Omega.{arith}
use lib.ListN.{length, take}
use lib.Seq.{length-take-le}
use Rattle.text.specs.Room.{put_at, behind}
use Rattle.report.proofs.Wrote.{wrote_then, wrote-front}
use borrow.Author.Rules.{rules}
use Rattle.report.proofs.render.render.Goals.{After-put_records-n}
use Rattle.report.proofs.render.render.Goals as goal

-- what was written is no longer than the buffer
used : (c : After-put_records-n) → length (take c.put_records-n.result c.put_records-n.new.out) ≡ c.put_records-n.result
used c = length-take-le _ _ (omega (arith, c.put_records-n.ensures.1, c.put_records-n.ensures.0.long))

pub put_records-n-requires : goal.put_records-n-requires
put_records-n-requires c = (c.put_inits-top.ensures.0.long ∙ search rules, c.put_inits-top.ensures.1)

pub slice_bounds-put-end : goal.slice_bounds-put-end
slice_bounds-put-end c = sym (used (goal.at.slice_bounds-put-end c).After-put_records-n)

pub returns : goal.returns
returns c = let e = (wrote-front _ _ _ _ (wrote_then _ 0 _ _ _ _ _ _ c.put_inits-top.ensures.0 c.put_records-n.ensures.0)).1 in (
  c.put.ensures.0 ∙ ap (λ (t : List ℕ). behind t c.args.out.now 0) e,
  c.put.ensures.1 ∙ ap (λ (t : List ℕ). put_at t c.args.out.now 0) e,
  omega (arith, used (goal.at.returns c).After-put_records-n, ap length e, c.put_records-n.ensures.1),
)
