-- Pairs of a trace that are lent as rows.
--
--   lent-iff    == a pair of the rows that joins operations
--   lent-joins  == so they join operations
--   lent-within == of a well formed trace, records
use mathlib.Core.Logic.{◌↔◌}
use mathlib.Core.Bool.{So}
use mathlib.Core.List.{List}
use Prim.Native.Nat.{ℕ}
use Rattle.laws.proofs.Tests.{and-iff, same-iff}
use Rattle.trace.specs.Meaning.{frame_of}
use Rattle.trace.specs.WellFormed.{well_formed}
use Rattle.trace.specs.declared.Trace.{Trace}
use Rattle.trace.proofs.Good.{good}
use Rattle.rules.specs.Rules.{Joins, InRecords}
use Rattle.rules.proofs.Ends.{joins-within}
use Rattle.rows.specs.Rows.{bit}
use Rattle.rows.specs.Lent.{lent_of}

module _ (t : Trace) (rows : List ℕ) where
  pub lent-iff : (x y : ℕ) → So (lent_of t rows x y) ↔ ((So ((frame_of t).operation x) × So ((frame_of t).operation y)) × So (bit rows x y))
  unfolding lent_of
  lent-iff x y = and-iff (and-iff same-iff same-iff) same-iff

  pub lent-joins : Joins (frame_of t) (lent_of t rows)
  lent-joins x y s = ((lent-iff x y).0 s).0

  pub lent-within : So (well_formed t) → InRecords (frame_of t) (lent_of t rows)
  lent-within w = joins-within (frame_of t) (good t w) (lent_of t rows) lent-joins
