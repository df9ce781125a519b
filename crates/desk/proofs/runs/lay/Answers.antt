-- `desk::runs::lay`: the count, and behind it the list. That the list has all its places is told by owning it.
use mathlib.Core.Path.{◌≡◌, ap, ◌∙◌}
use mathlib.Core.List.{List}
use Prim.Native.Nat.{ℕ}
use lib.ListN.{length}
use Rattle.text.specs.Room.{put_at}
use Rattle.machine.specs.Replay.{STEPS}
use Rattle.desk.proofs.Hosted.{steps-laid}
use Rattle.desk.proofs.runs.lay.Goals.{Start}
use Rattle.desk.proofs.runs.lay.Goals as goal

all-steps : (c : Start) → length c.args.s.steps ≡ STEPS
all-steps c = c.well_formed.0.1.1.1.1.0.1.0.1

pub returns : goal.returns
returns c =
    let a = c.args in
    c.put.ensures.1 ∙ ap (λ (o : List ℕ). put_at a.s.steps o 2) c.put_wide.ensures ∙ steps-laid a.s a.out.now (all-steps (goal.at.returns c).Start) c.requires.1
