-- What each answer of the judge says of a list. A condition is the first that fails where those before it hold, and what comes with it is the lowest.
--
--   Bad f xs i      == at place i of xs stands no operation
--   Twice xs x      == x stands in xs more than once
--   Out K xs x y    == x, y is a pair of K that is out of turn in xs
--   Early K xs x    == x begins such a pair
--   WrongRead f xs L == L reads, and another value than it must read in xs
--   Judges f K xs j == j is the answer, where the trace is the frame f and its kept pairs are K
use Rattle.std.specs.Prelude.{◌≡◌, ◌≢◌, Result, Ok, Err, List, ℕ, ◌<◌, length, get_or}
use Rattle.std.proofs.Math.Bool.{So}
use Rattle.std.proofs.Math.Option.{none, some}
use Rattle.laws.specs.Places.{count, Before}
use Rattle.laws.specs.Relation.{Table}
use Rattle.laws.specs.Lowest.{Lowest}
use Rattle.rules.specs.Frame.{Frame}
use Rattle.rules.specs.Order.{Sees, Keeps, Once, Valid}
use Rattle.rules.specs.Ready.{operations}
use Rattle.judge.specs.declared.judging.Broken.{Broken}
use Rattle.judge.specs.declared.judging.Broken.TheVariants.{NoModel, NotWellFormed, WrongLength, BadNumber, Repeat, OutOfTurn, WrongValue}

abbrev pub Bad : Frame → List ℕ → ℕ → Type 0
Bad f xs i = (i < length xs) × (So (f.operation (get_or xs i 0)) → ⊥)

abbrev pub Twice : List ℕ → ℕ → Type 0
Twice xs x = 1 < count x xs

abbrev pub Out : Table → List ℕ → ℕ → ℕ → Type 0
Out K xs x y = So (K x y) × (Before xs x y → ⊥)

abbrev pub Early : Table → List ℕ → ℕ → Type 0
Early K xs x = (y : ℕ) × Out K xs x y

abbrev pub WrongRead : Frame → List ℕ → ℕ → Type 0
WrongRead f xs L = So (f.reads L) × (Sees f xs L (f.read L) → ⊥)

abbrev pub Judges : Frame → Table → List ℕ → Result Unit Broken → Type 0
Judges f K xs (Ok u) = Valid f K xs
Judges f K xs (Err NoModel) = ⊥
Judges f K xs (Err NotWellFormed) = ⊥
Judges f K xs (Err WrongLength) = length xs ≢ operations f
Judges f K xs (Err (BadNumber i)) = (length xs ≡ operations f) × Lowest (Bad f xs) (some i)
Judges f K xs (Err (Repeat x)) = (length xs ≡ operations f) × Lowest (Bad f xs) none × Lowest (Twice xs) (some x)
Judges f K xs (Err (OutOfTurn x y)) = Once f xs × Lowest (Early K xs) (some x) × Lowest (Out K xs x) (some y)
Judges f K xs (Err (WrongValue L)) = Once f xs × Keeps K xs × Lowest (WrongRead f xs) (some L)
