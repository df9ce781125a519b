-- `search::seek::note`: the set is copied into the part that is its slot.
use mathlib.Core.Path.{◌≡◌, sym, ◌∙◌}
use Prim.Native.Nat.{ℕ, ◌+◌, ◌-◌, ◌*◌, ◌≤◌}
use native.Mathlib.Omega.{arith}
use lib.ListN.{length}
use Rattle.rows.specs.Bounds.{WORDS}
use Rattle.rows.proofs.Whole.{copy-same}
use Rattle.search.proofs.DeadSets.{noted_in, part-long}
use Rattle.search.proofs.seek.note.Goals as goal

pub returns : goal.returns
returns c = let a = c.args in
    let p = c.requires in
    let r = c.slot-from.result in
    let k : ℕ = r * WORDS + WORDS - r * WORDS in
    let q : k ≡ WORDS = omega arith in
    let fits : r * WORDS + WORDS ≤ length a.dead.now = omega (arith, c.slot-from.ensures, p.0) in
    let e : c.copy.new.to ≡ a.set.now = c.copy.ensures ∙ copy-same a.set.now _ (p.1 ∙ sym (part-long a.dead.now r k q fits)) in
    rw e (noted_in a.dead.now a.set.now r fits p.1 k q)
