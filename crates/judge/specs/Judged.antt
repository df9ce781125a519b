-- Which condition of a valid order a list fails first, in this order: its length, a number that is no operation's, a repeat, a pair out of turn, a
-- wrong value.
--
--   bad? f xs i      == what stands at place i of xs is no operation
--   twice? xs x      == x stands in xs more than once
--   out? K xs x y    == the pair x, y of K is out of turn in xs
--   early? K n xs x  == some pair of K that begins with x is
--   wrong? f xs L    == L reads another value in xs than it read
--   pair_of x y       == a pair out of turn, told its records
--   first_failing ..  == which comes first
--   turns_by f K xs   == the answer for a list that has each operation once
--   judged_by f K xs  == the answer, where the trace is the frame f and its kept pairs are K
--   judged_of t m xs  == the answer for any trace and model: 9 before 10
use Rattle.std.specs.Prelude.{Result, Ok, Err, Bool, true, false, not, ◌&&◌, cond, List, ℕ, eqb, ltb, length, get_or}
use Rattle.std.proofs.Math.Option.{Option, none, some}
use Rattle.laws.specs.Tests.{any}
use Rattle.laws.specs.Places.{pos, count}
use Rattle.laws.specs.Relation.{Table}
use Rattle.laws.specs.Lowest.{lowest}
use Rattle.rules.specs.Frame.{Frame}
use Rattle.trace.specs.Meaning.{frame_of}
use Rattle.trace.specs.WellFormed.{well_formed}
use Rattle.trace.specs.declared.Trace.{Trace}
use Rattle.pairs.specs.Kept.{modelled, kept_of}
use Rattle.rules.specs.Ready.{operations}
use Rattle.rules.specs.Seen.{seen}
use Rattle.judge.specs.declared.judging.Broken.{Broken}
use Rattle.judge.specs.declared.judging.Broken.TheVariants.{NoModel, NotWellFormed, WrongLength, BadNumber, Repeat, OutOfTurn, WrongValue}

unfoldable pub bad? : Frame → List ℕ → ℕ → Bool
bad? f xs i = not (f.operation (get_or xs i 0))

unfoldable pub twice? : List ℕ → ℕ → Bool
twice? xs x = ltb 1 (count x xs)

unfoldable pub out? : Table → List ℕ → ℕ → ℕ → Bool
out? K xs x y = K x y && not (ltb (pos xs x) (pos xs y))

unfoldable pub early? : Table → ℕ → List ℕ → ℕ → Bool
early? K n xs x = any n (out? K xs x)

unfoldable pub wrong? : Frame → List ℕ → ℕ → Bool
wrong? f xs L = f.reads L && not (eqb (f.read L) (seen f xs L))

-- what begins a pair out of turn has a second record
abbrev pub pair_of : ℕ → Option ℕ → Result Unit Broken
pair_of x (some y) = Err (OutOfTurn x y)
pair_of x none = Ok tt

-- the first condition that fails, told whether the length is right, the first bad place, the lowest repeat, the lowest record of a pair that is out of
-- turn and the second records of such pairs, the lowest wrong read
abbrev pub first_failing : Bool → Option ℕ → Option ℕ → Option ℕ → (ℕ → Option ℕ) → Option ℕ → Result Unit Broken
first_failing false place twice x y L = Err WrongLength
first_failing true (some i) twice x y L = Err (BadNumber i)
first_failing true none (some r) x y L = Err (Repeat r)
first_failing true none none (some x) y L = pair_of x (y x)
first_failing true none none none y (some L) = Err (WrongValue L)
first_failing true none none none y none = Ok tt

unfoldable pub turns_by : Frame → Table → List ℕ → Result Unit Broken
turns_by f K xs =
    let n = f.records in
    first_failing true none none (lowest (early? K n xs) n 0) (λ x. lowest (out? K xs x) n 0) (lowest (wrong? f xs) n 0)

unfoldable pub judged_by : Frame → Table → List ℕ → Result Unit Broken
judged_by f K xs =
    let n = f.records in
    first_failing (eqb (length xs) (operations f)) (lowest (bad? f xs) (length xs) 0) (lowest (twice? xs) n 0)
    (lowest (early? K n xs) n 0) (λ x. lowest (out? K xs x) n 0) (lowest (wrong? f xs) n 0)

unfoldable pub judged_of : Trace → ℕ → List ℕ → Result Unit Broken
judged_of t m xs = cond (modelled m) (cond (well_formed t) (judged_by (frame_of t) (kept_of m t) xs) (Err NotWellFormed)) (Err NoModel)
