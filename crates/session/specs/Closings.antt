-- What the rules come to on any trace, under any model, with any pairs.
--
--   Closings == for a trace, a model and a list of pairs, whether they are contradicted and the table of what is held, wherever a session can be
--               opened and the pairs may stand: contradicted exactly when the forced edges close a circle, then no pair in the table, and otherwise a
--               pair exactly where the rules force it; the table has all its words. proofs/Forcing.antt shows that there is one, and One.antt that no
--               second answer fits
use Rattle.std.specs.Prelude.{Bool, List, ℕ}
use Rattle.std.proofs.Math.Bool.{So}
use Rattle.trace.specs.Meaning.{frame_of}
use Rattle.trace.specs.declared.Trace.{Trace}
use Rattle.rows.specs.Rows.{bit}
use Rattle.pairs.specs.Kept.{kept_of}
use Rattle.rules.specs.Closing.{Closing}
use Rattle.edges.specs.LastRound.{Full}
use Rattle.session.specs.Stack.{Allowed, among}
use Rattle.session.specs.Opening.{openable}
use Rattle.session.specs.declared.Pair.{Pair}

pub record Closings : Type 0 where
  pub contradicted : Trace → ℕ → List Pair → Bool
  pub held : Trace → ℕ → List Pair → List ℕ
  pub full : (t : Trace) (m : ℕ) (ps : List Pair) → So (openable t m) → Allowed t ps → Full (held t m ps)
  pub closing : (t : Trace) (m : ℕ) (ps : List Pair) → So (openable t m) → Allowed t ps → Closing (frame_of t) (kept_of m t) (among ps) (contradicted t m ps) (bit (held t m ps))
