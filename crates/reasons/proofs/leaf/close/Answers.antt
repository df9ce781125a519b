-- `leaf::close`: the circle is told, and then its entry laid.
use Prim.Native.Nat.{◌+◌}
use native.Mathlib.Omega.{arith}
use lib.ListN.{take}
use Rattle.trace.specs.Meaning.{frame_of}
use Rattle.pairs.specs.Kept.{kept_of}
use Rattle.edges.specs.Supposed.{supposed_of}
use Rattle.reasons.proofs.Leaves.{closed-told, closed-full, closed-laid}
use borrow.Author.Rules.{rules}
use Rattle.reasons.proofs.leaf.close.Goals as goal

pub number_all-requires : goal.number_all-requires
number_all-requires c =
    let a = c.args in
    let d = closed-told (frame_of a.t) (kept_of a.model a.t) (supposed_of a.t a.supposed.now) a.k a.limit a.from.now a.to.now a.out.now a.count a.at a.s (take a.len a.steps.now) c.requires.branch.0 c.tell_all.new.from c.tell_all.new.to c.tell_all.new.out c.tell_all.result _ _ c.tell_all.ensures c.in_ok-m.was in
    (omega (arith, d.small, c.tell_all.auto.from), omega (arith, d.small, c.tell_all.auto.to), d.small, omega arith, omega arith)

pub lay_entry-requires : goal.lay_entry-requires
lay_entry-requires c =
    let a = c.args in
    let d = closed-told (frame_of a.t) (kept_of a.model a.t) (supposed_of a.t a.supposed.now) a.k a.limit a.from.now a.to.now a.out.now a.count a.at a.s (take a.len a.steps.now) c.requires.branch.0 c.tell_all.new.from c.tell_all.new.to c.tell_all.new.out c.tell_all.result _ _ c.tell_all.ensures c.in_ok-m.was in
    (search rules, omega arith, d.fits)

pub returns : goal.returns
returns c =
    let a = c.args in
    closed-laid (frame_of a.t) (kept_of a.model a.t) (supposed_of a.t a.supposed.now) a.k a.limit a.from.now a.to.now a.out.now a.count a.at a.s (take a.len a.steps.now) c.requires.branch.0 c.tell_all.new.from c.tell_all.new.to c.tell_all.new.out c.tell_all.result _ _ c.tell_all.ensures c.in_ok-m.was (take (a.len + 1) c.number_all.new.rests) c.number_all.ensures _ c.lay_entry.result c.lay_entry.ensures

pub returns-in_err-m : goal.returns-in_err-m
returns-in_err-m c =
    let a = c.args in
    rw c.from_residual.ensures (closed-full (frame_of a.t) (kept_of a.model a.t) (supposed_of a.t a.supposed.now) a.k a.limit a.from.now a.to.now a.out.now a.count a.at a.s (take a.len a.steps.now) c.requires.branch.0 c.tell_all.new.from c.tell_all.new.to c.tell_all.new.out c.tell_all.result c.tell_all.ensures c.in_err-m.was c.requires.branch.1)
