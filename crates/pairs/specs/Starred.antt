-- The traces of document 01 that carry a star, and KNOT, each with its verdicts. proofs/Starred.antt has the one statement about all of them.
--
--   trace_of os == the trace of the records os, its unused places idle
--   StarredCase == a trace and its verdicts, one for each model from SC on
--   cases      == those traces, in document 01's order
--   Under t m vs == the verdicts of a trace under model m and those after it are vs
--   CaseHolds c == the trace of the case is well formed, and its verdicts are those that the case has
use Rattle.std.proofs.Math.Bool.{So}
use Rattle.std.specs.Prelude.{List, [], ◌∷◌, ◌++◌, ◌≡◌, ℕ, suc, ◌-◌, length, replicate}
use Prim.{Unit}
use Rattle.trace.specs.Bounds.{RECORDS, ADDRESSES}
use Rattle.trace.specs.Trace.{idle}
use Rattle.trace.specs.Meaning.{frame_of}
use Rattle.trace.specs.WellFormed.{well_formed}
use Rattle.trace.specs.declared.Op.{Op}
use Rattle.trace.specs.declared.Op.TheVariants.{Load, Store, Swap, Fence}
use Rattle.trace.specs.declared.Record.{Record}
use Rattle.trace.specs.declared.Trace.{Trace}
use Rattle.pairs.specs.Kept.{SC, MODELS, kept_of}
use Rattle.rules.specs.Verdict.{Verdict, no_source, circle, order, none_left, Says}

unfoldable pub places : List Op → List Record
places [] = []
places (o ∷ os) = record { op = o } ∷ places os

unfoldable pub trace_of : List Op → Trace
trace_of os = record { records = places os ++ replicate (RECORDS - length os) (record { op = idle }); len = length os; firsts = replicate ADDRESSES 0 }

pub record StarredCase : Type 0 where
  pub ops : List Op
  pub verdicts : List Verdict

abbrev pub Under : Trace → ℕ → List Verdict → Type 0
Under t m [] = Unit {0}
Under t m (v ∷ vs) = Says (frame_of t) (kept_of m t) v × Under t (suc m) vs

unfoldable pub cases : List StarredCase
cases =
    record {
      ops = [];
      verdicts = order [] ∷ order [] ∷ order [] ∷ order [] ∷ [];
    }
    ∷ record {
      ops = Store 0 0 1 ∷ Load 0 1 0 ∷ Store 1 1 1 ∷ Load 1 0 0 ∷ [];
      verdicts = circle (0 ∷ 1 ∷ 2 ∷ 3 ∷ []) (1 ∷ 4 ∷ 1 ∷ 4 ∷ []) ∷ order (1 ∷ 2 ∷ 3 ∷ 0 ∷ []) ∷ order (1 ∷ 2 ∷ 3 ∷ 0 ∷ []) ∷ order (1 ∷ 2 ∷ 3 ∷ 0 ∷ []) ∷ [];
    }
    ∷ record {
      ops = Store 0 0 1 ∷ Fence 0 ∷ Load 0 1 0 ∷ Store 1 1 1 ∷ Fence 1 ∷ Load 1 0 0 ∷ [];
      verdicts = circle (0 ∷ 2 ∷ 3 ∷ 5 ∷ []) (1 ∷ 4 ∷ 1 ∷ 4 ∷ []) ∷ circle (0 ∷ 2 ∷ 3 ∷ 5 ∷ []) (1 ∷ 4 ∷ 1 ∷ 4 ∷ []) ∷ circle (0 ∷ 2 ∷ 3 ∷ 5 ∷ []) (1 ∷ 4 ∷ 1 ∷ 4 ∷ []) ∷ circle (0 ∷ 2 ∷ 3 ∷ 5 ∷ []) (1 ∷ 4 ∷ 1 ∷ 4 ∷ []) ∷ [];
    }
    ∷ record {
      ops = Store 0 0 1 ∷ Store 0 1 1 ∷ Load 1 1 1 ∷ Load 1 0 0 ∷ [];
      verdicts = circle (0 ∷ 1 ∷ 2 ∷ 3 ∷ []) (1 ∷ 2 ∷ 1 ∷ 4 ∷ []) ∷ circle (0 ∷ 1 ∷ 2 ∷ 3 ∷ []) (1 ∷ 2 ∷ 1 ∷ 4 ∷ []) ∷ order (1 ∷ 2 ∷ 3 ∷ 0 ∷ []) ∷ order (1 ∷ 2 ∷ 3 ∷ 0 ∷ []) ∷ [];
    }
    ∷ record {
      ops = Store 0 0 1 ∷ Load 0 0 0 ∷ [];
      verdicts = circle (0 ∷ 1 ∷ []) (1 ∷ 4 ∷ []) ∷ circle (0 ∷ 1 ∷ []) (5 ∷ 4 ∷ []) ∷ circle (0 ∷ 1 ∷ []) (5 ∷ 4 ∷ []) ∷ circle (0 ∷ 1 ∷ []) (5 ∷ 4 ∷ []) ∷ [];
    }
    ∷ record {
      ops = Store 0 1 1 ∷ Load 1 1 0 ∷ Load 1 1 1 ∷ Load 1 1 0 ∷ [];
      verdicts = circle (0 ∷ 2 ∷ 3 ∷ []) (2 ∷ 1 ∷ 4 ∷ []) ∷ circle (0 ∷ 2 ∷ 3 ∷ []) (2 ∷ 1 ∷ 4 ∷ []) ∷ circle (0 ∷ 2 ∷ 3 ∷ []) (2 ∷ 1 ∷ 4 ∷ []) ∷ circle (0 ∷ 2 ∷ 3 ∷ []) (2 ∷ 1 ∷ 4 ∷ []) ∷ [];
    }
    ∷ record {
      ops = Store 0 0 1 ∷ Load 0 0 1 ∷ Load 0 1 0 ∷ Store 1 1 1 ∷ Load 1 1 1 ∷ Load 1 0 0 ∷ [];
      verdicts = circle (0 ∷ 2 ∷ 3 ∷ 5 ∷ []) (1 ∷ 4 ∷ 1 ∷ 4 ∷ []) ∷ order (1 ∷ 2 ∷ 3 ∷ 4 ∷ 5 ∷ 0 ∷ []) ∷ order (1 ∷ 2 ∷ 3 ∷ 4 ∷ 5 ∷ 0 ∷ []) ∷ order (1 ∷ 2 ∷ 3 ∷ 4 ∷ 5 ∷ 0 ∷ []) ∷ [];
    }
    ∷ record {
      ops = Store 1 3 31 ∷ Swap 0 3 31 178 ∷ Swap 0 3 178 198 ∷ Swap 1 3 178 59 ∷ [];
      verdicts = circle (2 ∷ 3 ∷ []) (7 ∷ 7 ∷ []) ∷ circle (2 ∷ 3 ∷ []) (7 ∷ 7 ∷ []) ∷ circle (2 ∷ 3 ∷ []) (7 ∷ 7 ∷ []) ∷ circle (2 ∷ 3 ∷ []) (7 ∷ 7 ∷ []) ∷ [];
    }
    ∷ record {
      ops = Swap 0 0 5 5 ∷ [];
      verdicts = no_source 0 ∷ no_source 0 ∷ no_source 0 ∷ no_source 0 ∷ [];
    }
    ∷ record {
      ops = Store 0 1 11 ∷ Load 0 5 1 ∷ Store 0 0 2 ∷ Store 0 8 1 ∷ Fence 0 ∷ Load 0 2 21
          ∷ Store 1 2 21 ∷ Load 1 7 1 ∷ Store 1 0 1 ∷ Store 1 6 1 ∷ Fence 1 ∷ Load 1 1 11
          ∷ Store 2 1 12 ∷ Store 2 5 1 ∷ Load 3 6 1 ∷ Load 3 1 12 ∷ Store 4 2 22 ∷ Store 4 7 1 ∷ Load 5 8 1 ∷ Load 5 2 22 ∷ [];
      verdicts = none_left ∷ none_left ∷ order (0 ∷ 6 ∷ 13 ∷ 1 ∷ 2 ∷ 3 ∷ 5 ∷ 16 ∷ 17 ∷ 7 ∷ 8 ∷ 9 ∷ 11 ∷ 12 ∷ 14 ∷ 15 ∷ 18 ∷ 19 ∷ []) ∷ order (0 ∷ 2 ∷ 3 ∷ 6 ∷ 8 ∷ 9 ∷ 13 ∷ 1 ∷ 5 ∷ 14 ∷ 16 ∷ 17 ∷ 7 ∷ 11 ∷ 12 ∷ 15 ∷ 18 ∷ 19 ∷ []) ∷ [];
    }
    ∷ []

pub record CaseHolds (c : StarredCase) : Type 0 where
  pub well : So (well_formed (trace_of c.ops))
  pub every : length c.verdicts ≡ MODELS
  pub under : Under (trace_of c.ops) SC c.verdicts
