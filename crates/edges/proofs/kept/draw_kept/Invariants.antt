use Prim.Native.Nat.{◌≤◌}
use Rattle.rows.specs.Bounds.{CELLS}
use Rattle.rows.specs.Empty.{empty_of}
use Rattle.rows.specs.inner.AddedPairs.{Added}
use Rattle.edges.specs.inner.LaterRecords.{Later, LaterFenced, DrawnFrom}
use Rattle.edges.proofs.kept.draw_kept.Given as goal

abbrev pub invariant-loop-x : goal.invariant-loop-x
invariant-loop-x l = (l.x ≤ l.t.len) × Added (empty_of CELLS) (Later l.t l.x) l.later × Added (empty_of CELLS) (LaterFenced l.t l.x) l.behind × Added l.initial.kept (DrawnFrom l.t l.elsewhere l.there l.places l.x) l.kept
