-- `desk::sessions::placed`: the trace's file behind the head, then the head.
use mathlib.Core.Path.{ap}
use Rattle.desk.proofs.Packing.{found, placed-short, placed-none, placed-done}
use Rattle.desk.proofs.sessions.placed.Goals as goal

pub returns-then-out-lt-HEAD : goal.returns-then-out-lt-HEAD
returns-then-out-lt-HEAD c = placed-short c.args.s c.requires c.args.out.now c.if-out-lt-HEAD.true

pub returns-in-Ok : goal.returns-in-Ok
returns-in-Ok c =
    placed-done c.args.s c.requires c.args.out.now c.if-out-lt-HEAD.false _ c.write.ensures.0 _ c.write.ensures.1 (ap found c.in-Ok.is) _ c.lay.ensures

pub returns-in-Err : goal.returns-in-Err
returns-in-Err c =
    placed-none c.args.s c.requires c.args.out.now c.if-out-lt-HEAD.false _ c.write.ensures.0 _ c.write.ensures.1 (ap found c.in-Err.is)
