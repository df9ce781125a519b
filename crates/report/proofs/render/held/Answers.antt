-- `report::render::held`: past the array nothing is taken. Its length is told by owning it.
use mathlib.Core.Path.{◌≡◌, sym, ◌∙◌}
use native.Mathlib.Omega.{arith}
use lib.ListN.{length}
use lib.Seq.{take_all}
use Rattle.trace.specs.Bounds.{RECORDS}
use Rattle.report.proofs.render.held.Goals.{Start}
use Rattle.report.proofs.render.held.Goals as goal

full : (c : Start) → length c.args.t.records ≡ RECORDS
full c = c.well_formed.0.1.1.0.1.0.1

pub returns-then-n-gt-RECORDS : goal.returns-then-n-gt-RECORDS
returns-then-n-gt-RECORDS c = let l = full (goal.at.returns-then-n-gt-RECORDS c).Start in
    (omega arith, take_all RECORDS c.args.t.records (omega arith) ∙ sym (take_all c.args.t.len c.args.t.records (omega arith)))
