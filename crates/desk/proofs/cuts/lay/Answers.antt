-- `desk::cuts::lay`: the two numbers, and behind them the old numbers and the text.
use mathlib.Core.Path.{ap, ◌∙◌}
use mathlib.Core.List.{List}
use Prim.Native.Nat.{ℕ}
use lib.ListN.{length}
use Rattle.text.specs.Room.{put_at}
use Rattle.desk.specs.VerdictBytes.{wide}
use Rattle.desk.specs.Cuts.{LEFT}
use Rattle.desk.proofs.Leaving.{left_laid}
use Rattle.desk.proofs.cuts.lay.Goals as goal

pub returns : goal.returns
returns c =
    let a = c.args in
    c.put.ensures.1
    ∙ ap (λ (o : List ℕ). put_at a.lines.now o LEFT) c.put_wide-2.ensures
    ∙ ap (λ (o : List ℕ). put_at a.lines.now (put_at (wide a.olds.now) o 4) LEFT) c.put_wide.ensures
    ∙ left_laid a.front (length a.lines.now) a.olds.now a.lines.now a.out.now c.requires.2 c.requires.3
