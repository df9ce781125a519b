-- `rows::turn_part`: past n there is nothing to turn; else the square is taken, turned and laid.
use mathlib.Core.Logic.{inl, inr}
use Rattle.rows.proofs.Turning.{part-bare}
use Rattle.rows.proofs.turn_part.Goals.{then-n-p-via-then-n-p, then-n-p-via-else-n-p+then-n-q}
use Rattle.rows.proofs.turn_part.Goals as goal

pub returns-then-n-p : goal.returns-then-n-p
returns-then-n-p c = let a = c.args in part-bare a.rows.now a.n a.p a.q a.out.now a.out.now (elim c.then-n-p.branch [ then-n-p-via-then-n-p w ↦ inl w.if-n-p.true | then-n-p-via-else-n-p+then-n-q w ↦ inr w.if-n-q.true ])
