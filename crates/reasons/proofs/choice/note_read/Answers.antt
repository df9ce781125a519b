-- `choice::note_read`: who the loads passed read from is noted.
use mathlib.Core.Path.{sym, ap, ◌∙◌, subst⁻¹}
use mathlib.Core.List.{List}
use Prim.Native.Nat.{ℕ, ◌+◌}
use native.Mathlib.Omega.{arith}
use lib.ListN.{length}
use Rattle.trace.specs.Meaning.{frame_of}
use Rattle.rows.proofs.Pair.{put-long}
use Rattle.rows.proofs.Whole.{empty-long}
use Rattle.reasons.proofs.Noting.{NotedBelow, noted-none, noted_more, noted-all}
use Rattle.reasons.proofs.choice.note_read.Goals as goal

pub loop-load-init : goal.loop-load-init
loop-load-init c =
    let a = c.args in
    let e = c.clear.ensures in
    (omega arith, ap length e ∙ empty-long (length a.read.now) ∙ c.requires, subst⁻¹ (λ (r : List ℕ). NotedBelow (frame_of a.t) 0 r) e (noted-none (frame_of a.t) (length a.read.now)))

pub loop-load-preserved : goal.loop-load-preserved
loop-load-preserved c =
    let a = c.args in
    let e = c.put.ensures in
    (omega arith, ap length e ∙ put-long c.loop-load.read 0 c.source_of-source.result ∙ c.loop-load.invariant.1, subst⁻¹ (λ (r : List ℕ). NotedBelow (frame_of a.t) (c.loop-load.load + 1) r) e (noted_more (frame_of a.t) c.loop-load.load c.loop-load.read c.source_of-source.result c.loop-load.invariant.1 c.loop-load.invariant.2 c.source_of-source.ensures))

pub shape_of-read : goal.shape_of-read
shape_of-read c = c.loop-load.invariant.1 ∙ sym c.requires

pub returns : goal.returns
returns c =
    let a = c.args in
    noted-all (frame_of a.t) c.loop-load.load c.loop-load.read (omega (arith, c.loop-load.invariant.0)) c.loop-load.invariant.2
