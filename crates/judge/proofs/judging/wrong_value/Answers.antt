-- `judge::judging::wrong_value`: the loads and swaps passed read what they must read.
use mathlib.Core.Path.{◌≡◌, sym, ap, ◌∙◌}
use mathlib.Core.Bool.{true, false}
use Rattle.laws.proofs.LowestLoops.{more-below}
use Rattle.trace.specs.Op.{reads, read}
use Rattle.trace.specs.Trace.{at}
use Rattle.trace.specs.Meaning.{frame_of}
use Rattle.trace.proofs.Records.{reads_at}
use Rattle.pairs.proofs.Found.{at-lowest, nothing-lowest}
use Rattle.judge.proofs.Walked.{wrong-here, wrong-idle, wrong-right}
use Rattle.judge.proofs.judging.wrong_value.Goals.{else-reads, then-reads+else-read-seen}
use Rattle.judge.proofs.judging.wrong_value.Goals as goal

pub returns-then-read-seen : goal.returns-then-read-seen
unfolding frame_of
returns-then-read-seen c =
    let l = c.loop-load in
    let h = c.loop-load-test.true in
    let e : reads (at c.args.t l.load) ≡ true = cc in
    at-lowest _ _ l.load l.invariant h (wrong-here (frame_of c.args.t) c.args.list.now l.load (reads_at c.args.t l.load h ∙ e)
    (λ q. c.if-read-seen.true (c.read.ensures ∙ ap read c.op_at-op.ensures ∙ q ∙ sym c.seen.ensures)))

pub loop-load-preserved : goal.loop-load-preserved
unfolding frame_of
loop-load-preserved c =
    let l = c.loop-load in
    let h = c.loop-load-test.true in
    more-below _ l.load l.invariant
    ((elim c.if-reads.branch [ then-reads+else-read-seen w ↦ wrong-right (frame_of c.args.t) c.args.list.now l.load (sym (w.read.ensures ∙ ap read c.op_at-op.ensures) ∙ w.if-read-seen.false ∙ w.seen.ensures) | else-reads w ↦ let e : reads (at c.args.t l.load) ≡ false = cc in wrong-idle (frame_of c.args.t) c.args.list.now l.load (reads_at c.args.t l.load h ∙ e) ]))

pub returns : goal.returns
unfolding frame_of
returns c = let l = c.loop-load in nothing-lowest _ _ l.load l.invariant c.loop-load-test.false
