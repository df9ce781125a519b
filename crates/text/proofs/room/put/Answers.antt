-- `text::room::put`: where there is room, the bytes below i are copied.
use mathlib.Core.Path.{◌≡◌, refl, sym, ap, ◌∙◌}
use mathlib.Core.List.{List}
use Prim.Native.Nat.{ℕ, ◌+◌, ◌≤◌}
use native.Mathlib.Numerals.{add-one}
use native.Mathlib.Omega.{arith}
use lib.ListN.{length, set, get_or, length-set}
use lib.Seq.{paste-zero, paste-suc}
use Rattle.text.proofs.Put.{put-paste, put-none, behind-room, behind-none}
use Rattle.text.proofs.room.put.Goals as goal

pub returns-then-out-at : goal.returns-then-out-at
returns-then-out-at c = let a = c.args in (
  sym (behind-none a.word.now a.out.now a.at (omega arith)),
  sym (put-none a.word.now a.out.now a.at (omega arith)),
)

pub loop-i-init : goal.loop-i-init
loop-i-init c = let a = c.args in (omega arith, refl, paste-zero a.out.now a.at a.word.now)

pub loop-i-preserved : goal.loop-i-preserved
loop-i-preserved c = let l = c.loop-i in
    let a = c.args in
    let v = get_or a.word.now l.i 0 in (
      omega arith,
      length-set l.out (a.at + l.i) v ∙ l.invariant.1,
      ap (λ (o : List ℕ). set o (a.at + l.i) v) l.invariant.2 ∙ rw add-one (paste-suc a.out.now a.at a.word.now l.i 0 (omega arith) (omega arith)),
    )

pub shape_of-out : goal.shape_of-out
shape_of-out c = c.loop-i.invariant.1

pub returns : goal.returns
returns c = let l = c.loop-i in
    let a = c.args in
    let e : l.i ≡ length a.word.now = omega arith in
    let h : a.at + length a.word.now ≤ length a.out.now = omega arith in (
      sym (behind-room a.word.now a.out.now a.at h),
      (rw e at l.invariant.2) ∙ sym (put-paste a.word.now a.out.now a.at h),
    )
