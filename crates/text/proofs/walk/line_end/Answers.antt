-- `text::walk::line_end`: the line seen from `i` ends where the line seen from `at` does.
use native.Mathlib.Decide.{dec_lt}
use native.Mathlib.Omega.{arith}
use lib.ListN.{length}
use Rattle.text.proofs.Lines.{end-here, end_on, end-last}
use Rattle.text.proofs.walk.line_end.Goals as goal

pub returns-then-text-i-eq-FEED : goal.returns-then-text-i-eq-FEED
returns-then-text-i-eq-FEED c =
    let e = end-here c.args.text.now c.loop-i.i c.loop-i-test.true c.if-text-i-eq-FEED.true in
    omega arith

pub loop-i-preserved : goal.loop-i-preserved
loop-i-preserved c =
    let e = end_on c.args.text.now c.loop-i.i c.loop-i-test.true c.if-text-i-eq-FEED.false in
    omega arith

pub returns : goal.returns
returns c =
    let t = c.args.text.now in
    let e = end-last t c.loop-i.i (omega arith) in
    elim (dec_lt (length t) c.args.at) [ yes h ↦ let f = end-last t c.args.at (omega arith) in omega arith | no h ↦ omega arith ]
