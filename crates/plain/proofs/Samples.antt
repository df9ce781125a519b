-- Counts worked out by hand: the store buffers of document 01 under TSO take 11 steps.
use mathlib.Core.Path.{◌≡◌, refl}
use mathlib.Core.List.{List, [], ◌∷◌}
use mathlib.Core.Option.{Option, none, some}
use Prim.Native.Nat.{ℕ}
use Rattle.laws.specs.Tests.{all, any}
use Rattle.laws.specs.Places.{count}
use Rattle.laws.specs.Sums.{sum}
use Rattle.laws.specs.Latest.{last_of}
use Rattle.trace.specs.Trace.{first}
use Rattle.trace.specs.Meaning.{frame_of}
use Rattle.trace.specs.declared.Op.TheVariants.{Load, Store}
use Rattle.pairs.specs.Kept.{SC, TSO, let_off, kept_by, fenced, kept_of}
use Rattle.rules.specs.RuleTests.{writer?}
use Rattle.rules.specs.Ready.{operations}
use Rattle.pairs.specs.Starred.{places, trace_of}
use Rattle.plain.specs.Plain.{waits, so_far, expected, next?, tries, plain}

pub buffers-tso : let t = trace_of (Store 0 0 1 ∷ Load 0 1 0 ∷ Store 1 1 1 ∷ Load 1 0 0 ∷ []) in plain (frame_of t) (kept_of TSO t) (operations (frame_of t)) [] ≡ (11, some (1 ∷ 2 ∷ 3 ∷ 0 ∷ []))
unfolding trace_of places frame_of first kept_of kept_by let_off fenced operations sum count all any plain tries next? expected so_far waits last_of writer?
buffers-tso = refl

pub early-tso : let t = trace_of (Store 0 0 1 ∷ Load 0 0 1 ∷ Load 0 1 0 ∷ Store 1 1 1 ∷ Load 1 1 1 ∷ Load 1 0 0 ∷ []) in (plain (frame_of t) (kept_of TSO t) (operations (frame_of t)) []).1 ≡ some (1 ∷ 2 ∷ 3 ∷ 4 ∷ 5 ∷ 0 ∷ [])
unfolding trace_of places frame_of first kept_of kept_by let_off fenced operations sum count all any plain tries next? expected so_far waits last_of writer?
early-tso = refl

-- the set that is placed does not decide what is below it: two stores to one address, then a load of the first
pub set-is-not-enough : let t = trace_of (Store 0 0 1 ∷ Store 1 0 2 ∷ Load 2 0 1 ∷ []) in
    ◌≡◌ {A = (ℕ × Option (List ℕ)) × (ℕ × Option (List ℕ))} (plain (frame_of t) (kept_of SC t) 1 (0 ∷ 1 ∷ []), plain (frame_of t) (kept_of SC t) 1 (1 ∷ 0 ∷ [])) ((0, none), (1, some (2 ∷ [])))
unfolding trace_of places frame_of first kept_of kept_by let_off fenced operations sum count all any plain tries next? expected so_far waits last_of writer?
set-is-not-enough = refl
