-- `desk::verdicts::lay`: the count, and behind it the operations and the rules. That the arrays have all their places is told by owning them.
use mathlib.Core.Path.{◌≡◌, ap, ◌∙◌}
use mathlib.Core.List.{List}
use Prim.Native.Nat.{ℕ, ◌+◌, ◌*◌, ◌≤◌}
use native.Mathlib.Omega.{arith}
use lib.ListN.{length}
use Rattle.trace.specs.Bounds.{RECORDS}
use Rattle.text.specs.Room.{put_at}
use Rattle.text.proofs.Put.{length-put}
use Rattle.desk.specs.VerdictBytes.{wide}
use Rattle.desk.specs.inner.SpelledVerdict.{laid_out}
use Rattle.desk.proofs.Spelling.{laid-down}
use Rattle.desk.proofs.verdicts.lay.Goals.{Start}
use Rattle.desk.proofs.verdicts.lay.Goals as goal

all-operations : (c : Start) → length c.args.v.operations ≡ RECORDS
all-operations c = c.well_formed.0.1.1.1.1.0.1.0.1

all-rules : (c : Start) → length c.args.v.rules ≡ RECORDS
all-rules c = c.well_formed.0.1.1.1.1.1.0.1.0.1

pub put_wide-requires-2 : goal.put_wide-requires-2
put_wide-requires-2 c =
    let long : length c.put_wide.new.out ≡ length c.args.out.now = ap length c.put_wide.ensures ∙ length-put _ _ _ in
    let room : 2 + 2 * length c.args.v.operations ≤ length c.put_wide.new.out = omega (arith, long, all-operations (goal.at.put_wide-requires-2 c).Start, c.requires.1) in
    room

pub shape_of-out : goal.shape_of-out
shape_of-out c =
    ap length c.put.ensures.1 ∙ length-put _ _ _ ∙ ap length c.put_wide-2.ensures ∙ length-put _ _ _ ∙ ap length c.put_wide.ensures ∙ length-put _ _ _

pub returns : goal.returns
unfolding laid_out
returns c =
    let a = c.args in
    c.put.ensures.1
    ∙ ap (λ (o : List ℕ). put_at a.v.rules o (2 + 2 * RECORDS)) c.put_wide-2.ensures
    ∙ ap (λ (o : List ℕ). put_at a.v.rules (put_at (wide a.v.operations) o 2) (2 + 2 * RECORDS)) c.put_wide.ensures
    ∙ laid-down a.v.operations a.v.rules a.v.len (all-operations (goal.at.returns c).Start) (all-rules (goal.at.returns c).Start) a.out.now c.requires.1
