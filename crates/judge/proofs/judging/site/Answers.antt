-- `judge::judging::site`: the places from i on are looked at.
use Rattle.judge.proofs.Positions.{sited-none, sited-write, sited-skip}
use Rattle.judge.proofs.judging.site.Goals as goal

pub loop-i-init : goal.loop-i-init
loop-i-init c = rw c.requires (sited-none _)

pub loop-i-preserved-then-x-lt-RECORDS : goal.loop-i-preserved-then-x-lt-RECORDS
loop-i-preserved-then-x-lt-RECORDS c =
    let l = c.loop-i in
    sited-write _ l.i l.sites c.loop-i-test.true l.invariant c.if-x-lt-RECORDS.true

pub loop-i-preserved : goal.loop-i-preserved
loop-i-preserved c =
    let l = c.loop-i in
    sited-skip _ l.i l.sites c.loop-i-test.true l.invariant c.if-x-lt-RECORDS.false
