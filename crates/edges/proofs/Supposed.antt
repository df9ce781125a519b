-- The supposed pairs of a trace.
--
--   supposed-iff   == a pair of the rows that joins operations
--   supposed-joins == so they join operations
use mathlib.Core.Logic.{◌↔◌}
use mathlib.Core.Bool.{So}
use mathlib.Core.List.{List}
use Prim.Native.Nat.{ℕ}
use Rattle.laws.proofs.Tests.{and-iff, same-iff}
use Rattle.trace.specs.Meaning.{frame_of}
use Rattle.trace.specs.declared.Trace.{Trace}
use Rattle.rows.specs.Rows.{bit}
use Rattle.rules.specs.Rules.{Joins}
use Rattle.edges.specs.Supposed.{supposed_of}

pub supposed-iff : (t : Trace) (rows : List ℕ) (x y : ℕ) → So (supposed_of t rows x y) ↔ ((So ((frame_of t).operation x) × So ((frame_of t).operation y)) × So (bit rows x y))
unfolding supposed_of
supposed-iff t rows x y = and-iff (and-iff same-iff same-iff) same-iff

pub supposed-joins : (t : Trace) (rows : List ℕ) → Joins (frame_of t) (supposed_of t rows)
supposed-joins t rows x y s = ((supposed-iff t rows x y).0 s).0
