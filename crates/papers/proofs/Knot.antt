-- KNOT's list of reasons, under SC and TSO.
--
--   knot-refuted == it is accepted, so KNOT has no valid order
use mathlib.Core.Path.{refl}
use mathlib.Core.Bool.{So}
use mathlib.Core.List.{List, [], ◌∷◌, ◌++◌}
use Prim.Native.Nat.{ℕ, ◌-◌}
use lib.ListN.{length, replicate}
use Rattle.laws.specs.Tests.{all, any}
use Rattle.trace.specs.Bounds.{RECORDS, ADDRESSES}
use Rattle.trace.specs.Trace.{idle, first}
use Rattle.trace.specs.Meaning.{frame_of}
use Rattle.trace.specs.WellFormed.{well_formed, follows, fresh, bounded, written_before, is_idle}
use Rattle.rules.specs.Order.{Valid}
use Rattle.trace.specs.declared.Op.{Op}
use Rattle.trace.specs.declared.Op.TheVariants.{Load, Store, Fence}
use Rattle.trace.specs.declared.Record.{Record}
use Rattle.trace.specs.declared.Trace.{Trace}
use Rattle.trace.proofs.Good.{good}
use Rattle.pairs.specs.Kept.{SC, TSO, let_off, kept_of, kept_by, fenced}
use Rattle.rules.specs.RuleTests.{writer?, source?, first?, rules, gives?}
use Rattle.papers.specs.Paper.{Entry, leads, chained, splits, fits, refutes, accepted}
use Rattle.papers.proofs.Sound.{accepted-sound}

unfoldable pub places : List Op → List Record
places [] = []
places (o ∷ os) = record { op = o } ∷ places os

unfoldable pub trace_of : List Op → Trace
trace_of os = record { records = places os ++ replicate (RECORDS - length os) (record { op = idle }); len = length os; firsts = replicate ADDRESSES 0 }

pub knot : List Op
knot =
    Store 0 1 11 ∷ Load 0 5 1 ∷ Store 0 0 2 ∷ Store 0 8 1 ∷ Fence 0 ∷ Load 0 2 21
    ∷ Store 1 2 21 ∷ Load 1 7 1 ∷ Store 1 0 1 ∷ Store 1 6 1 ∷ Fence 1 ∷ Load 1 1 11
    ∷ Store 2 1 12 ∷ Store 2 5 1 ∷ Load 3 6 1 ∷ Load 3 1 12 ∷ Store 4 2 22 ∷ Store 4 7 1 ∷ Load 5 8 1 ∷ Load 5 2 22 ∷ []

abbrev pub entry : ℕ → ℕ → ℕ → List ℕ → Entry
entry r x y is = record { rule = r; from = x; to = y; rests = is }

reasons : List Entry
reasons =
    entry 8 0 12 ([])
    ∷ entry 1 6 11 ([])
    ∷ entry 7 11 12 (0 ∷ [])
    ∷ entry 1 12 13 ([])
    ∷ entry 2 13 1 ([])
    ∷ entry 1 1 3 ([])
    ∷ entry 2 3 18 ([])
    ∷ entry 1 18 19 ([])
    ∷ entry 6 6 16 (1 ∷ 2 ∷ 3 ∷ 4 ∷ 5 ∷ 6 ∷ 7 ∷ [])
    ∷ entry 1 16 17 ([])
    ∷ entry 2 17 7 ([])
    ∷ entry 1 7 11 ([])
    ∷ entry 1 1 5 ([])
    ∷ entry 6 16 6 (9 ∷ 10 ∷ 11 ∷ 2 ∷ 3 ∷ 4 ∷ 12 ∷ [])
    ∷ entry 0 6 6 (8 ∷ 13 ∷ [])
    ∷ entry 1 6 9 ([])
    ∷ entry 2 9 14 ([])
    ∷ entry 1 14 15 ([])
    ∷ entry 7 15 0 (0 ∷ [])
    ∷ entry 1 0 3 ([])
    ∷ entry 2 3 18 ([])
    ∷ entry 1 18 19 ([])
    ∷ entry 6 6 16 (1 ∷ 2 ∷ 3 ∷ 4 ∷ 5 ∷ 6 ∷ 7 ∷ [])
    ∷ entry 1 16 17 ([])
    ∷ entry 2 17 7 ([])
    ∷ entry 1 7 9 ([])
    ∷ entry 1 0 5 ([])
    ∷ entry 6 16 6 (9 ∷ 10 ∷ 11 ∷ 2 ∷ 3 ∷ 4 ∷ 12 ∷ [])
    ∷ entry 0 6 6 (8 ∷ 13 ∷ [])
    ∷ []

well : So (well_formed (trace_of knot))
unfolding trace_of places knot well_formed follows fresh bounded written_before is_idle first all any
well = refl

under-sc : So (accepted (frame_of (trace_of knot)) (kept_of SC (trace_of knot)) reasons)
unfolding trace_of places knot reasons frame_of kept_of kept_by fenced first all any gives? rules source? first? writer? let_off leads chained splits fits refutes accepted
under-sc = refl

under-tso : So (accepted (frame_of (trace_of knot)) (kept_of TSO (trace_of knot)) reasons)
unfolding trace_of places knot reasons frame_of kept_of kept_by fenced first all any gives? rules source? first? writer? let_off leads chained splits fits refutes accepted
under-tso = refl

pub knot-refuted : ((xs : List ℕ) → Valid (frame_of (trace_of knot)) (kept_of SC (trace_of knot)) xs → ⊥) × ((xs : List ℕ) → Valid (frame_of (trace_of knot)) (kept_of TSO (trace_of knot)) xs → ⊥)
knot-refuted = (accepted-sound _ (good _ well) _ reasons under-sc, accepted-sound _ (good _ well) _ reasons under-tso)
