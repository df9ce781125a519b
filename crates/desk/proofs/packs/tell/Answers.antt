-- `desk::packs::tell`: the count, and the bytes behind it.
use mathlib.Core.Path.{ap, ◌∙◌}
use mathlib.Core.List.{List}
use Prim.Native.Nat.{ℕ}
use Rattle.text.specs.Room.{put_at}
use Rattle.desk.specs.Packs.{COUNT}
use Rattle.desk.proofs.Counted.{tell-short, tell-done}
use Rattle.desk.proofs.packs.tell.Goals as goal

pub returns-then-out-n : goal.returns-then-out-n
returns-then-out-n c = tell-short c.args.bytes.now c.args.out.now c.if-out-n.true

pub returns : goal.returns
returns c =
    tell-done c.args.bytes.now c.args.out.now c.if-out-n.false _ (c.put.ensures.1 ∙ ap (λ (o : List ℕ). put_at c.args.bytes.now o COUNT) c.put_wide.ensures)
