use Prim.Native.Nat.{◌≤◌}
use Rattle.trace.specs.Meaning.{frame_of}
use Rattle.edges.specs.inner.SourcesLaid.{SourcesLaid}
use Rattle.edges.proofs.sources.lay_sources.Given as goal

abbrev pub invariant-loop-load : goal.invariant-loop-load
invariant-loop-load l = (l.load ≤ l.n) × SourcesLaid (frame_of l.t) l.load l.initial.sources l.sources
