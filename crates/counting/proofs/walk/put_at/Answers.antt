use mathlib.Core.Path.{◌≡◌, sym, ◌∙◌}
use Prim.Native.Nat.{ℕ, ◌+◌, ◌-◌, ◌*◌, ◌≤◌}
use native.Mathlib.Omega.{arith}
use lib.ListN.{length}
use Rattle.rows.specs.Bounds.{WORDS}
use Rattle.rows.proofs.Whole.{copy-same}
use Rattle.counting.proofs.Slots.{put_in, part-long}
use Rattle.counting.proofs.walk.put_at.Goals as goal

pub returns : goal.returns
returns c = let a = c.args in
    let p = c.requires in
    let k : ℕ = a.h * WORDS + WORDS - a.h * WORDS in
    let q : k ≡ WORDS = omega arith in
    let fits : a.h * WORDS + WORDS ≤ length a.memory.now = omega (arith, p.0, p.1) in
    let e : c.copy.new.to ≡ a.set.now = c.copy.ensures ∙ copy-same a.set.now _ (p.2 ∙ sym (part-long a.memory.now a.h k q fits)) in
    rw e (put_in a.memory.now a.set.now a.h fits p.2 k q)
