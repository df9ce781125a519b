-- A record that lacks its source, told the sources of all.
--
--   lacks-told == the test of such a record, as a function reads it off the trace and the sources
use mathlib.Core.Path.{◌≡◌, subst}
use mathlib.Core.Bool.{Bool, So, not, ◌&&◌}
use mathlib.Core.List.{List}
use Prim.Native.Nat.{ℕ, ◌<◌}
use native.Mathlib.Omega.{arith}
use lib.Dec.{eqb, leb}
use lib.ListN.{get_or}
use Rattle.laws.proofs.Tests.{so-lt}
use Rattle.trace.specs.Bounds.{RECORDS}
use Rattle.trace.specs.Meaning.{frame_of}
use Rattle.trace.specs.Op.{address, read, reads}
use Rattle.trace.specs.Trace.{at, first}
use Rattle.trace.specs.WellFormed.{well_formed}
use Rattle.trace.specs.declared.Trace.{Trace}
use Rattle.rules.specs.Missing.{missing?}
use Rattle.pairs.specs.SourceOf.{source_of}
use Rattle.pairs.proofs.MissingOf.{lacks-parts}
use Rattle.pairs.proofs.ValidOrders.{well-fits}
use Rattle.edges.specs.SourcesOf.{SourcesOf}

pub lacks-told : (t : Trace) → So (well_formed t) → (sources : List ℕ) → SourcesOf t sources → (L : ℕ) → L < t.len
    → (reads (at t L) && not (eqb (read (at t L)) (first t (address (at t L)))) && leb RECORDS (get_or sources L 0)) ≡ missing? (frame_of t) L
lacks-told t w sources s L l =
    let fits = well-fits t w in
    rw (s.source fits L (omega arith)) (
    subst (λ (b : Bool). (b && reads (at t L) && not (eqb (read (at t L)) (first t (address (at t L)))) && leb RECORDS (source_of (frame_of t) L)) ≡ missing? (frame_of t) L) (so-lt.1 l) (lacks-parts t w L)
    )
