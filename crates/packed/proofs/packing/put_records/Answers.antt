-- `packed::packing::put_records`: the first i records are put down.
use mathlib.Core.Path.{◌≡◌, ap, ◌∙◌}
use mathlib.Core.List.{List}
use Prim.Native.Nat.{ℕ, ◌+◌, ◌*◌}
use native.Mathlib.Omega.{arith}
use lib.ListN.{length}
use Rattle.text.specs.Room.{put_at}
use Rattle.trace.specs.Bounds.{RECORDS}
use Rattle.packed.specs.Layout.{RECORD, record_bytes}
use Rattle.packed.proofs.FileLaid.{put-nothing, records-step}
use Rattle.packed.proofs.packing.put_records.Goals.{Start}
use Rattle.packed.proofs.packing.put_records.Goals as goal

-- the array has all its places, which is told by owning it
full : (c : Start) → length c.args.t.records ≡ RECORDS
full c = c.well_formed.0.1.1.0.1.0.1

pub loop-i-init : goal.loop-i-init
unfolding record_bytes
loop-i-init c = (omega arith, put-nothing c.args.out.now c.args.from (omega (arith, c.requires.1)))

pub loop-i-preserved : goal.loop-i-preserved
loop-i-preserved c = (
  omega arith,
  records-step c.args.t.records c.loop-i.i (omega (arith, full (goal.at.loop-i-preserved c).Start)) c.args.out.now c.loop-i.out _ c.args.from (omega arith) c.loop-i.invariant.1
      (c.put.ensures.1 ∙ ap (λ (w : List ℕ). put_at w c.loop-i.out (c.args.from + RECORD * c.loop-i.i)) c.record_of.ensures),
)
