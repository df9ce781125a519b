-- Which pairs of a trace a model keeps. What holds without a fence between stands by model, kind of the first and kind of the second.
--
--   SC, TSO, PSO, WMO, MODELS    == the models' numbers; models are numbered from 1 to MODELS
--   LOAD, STORE, SWAP, FENCE     == the kinds' numbers
--   kind_of o                     == the kind of a record
--   modelled m                   == the model exists
--   let_off m a b one             == model m lets off a pair of kinds a and b without a fence between, at one address or at two; each model what
--                                   the one before it lets off, and more
--   kept_by m a b one             == model m keeps such a pair; a fence is in no pair
--   side_of one                   == where an entry of the table has what holds at two addresses, and where what holds at one
--   kept_pair m a b later between == model m keeps the records a and b, told whether b is later and whether a fence stands between
--   fenced t x y                 == a fence of x's thread stands between x and y
--   kept_of m t                   == the pairs of a trace that model m keeps
use Rattle.std.specs.Prelude.{Bool, true, false, not, ◌&&◌, ◌||◌, ℕ, eqb, ltb, leb}
use Rattle.laws.specs.Tests.{any}
use Rattle.laws.specs.Relation.{Table}
use Rattle.trace.specs.Op.{thread, address, fence}
use Rattle.trace.specs.Trace.{at}
use Rattle.trace.specs.Meaning.{frame_of}
use Rattle.trace.specs.declared.Op.{Op}
use Rattle.trace.specs.declared.Op.TheVariants.{Load, Store, Swap, Fence}
use Rattle.trace.specs.declared.Trace.{Trace}

abbrev pub SC : ℕ
SC = 1

abbrev pub TSO : ℕ
TSO = 2

abbrev pub PSO : ℕ
PSO = 3

abbrev pub WMO : ℕ
WMO = 4

abbrev pub MODELS : ℕ
MODELS = 4

abbrev pub LOAD : ℕ
LOAD = 0

abbrev pub STORE : ℕ
STORE = 1

abbrev pub SWAP : ℕ
SWAP = 2

abbrev pub FENCE : ℕ
FENCE = 3

abbrev pub kind_of : Op → ℕ
kind_of (Load t a r) = LOAD
kind_of (Store t a w) = STORE
kind_of (Swap t a r w) = SWAP
kind_of (Fence t) = FENCE

abbrev pub modelled : ℕ → Bool
modelled m = ltb 0 m && leb m MODELS

-- from TSO on a store and a load, from PSO on a store and what writes elsewhere, from WMO on all that is elsewhere
unfoldable pub let_off : ℕ → ℕ → ℕ → Bool → Bool
let_off m a b one =
    (leb TSO m && eqb a STORE && eqb b LOAD)
    || (leb PSO m && eqb a STORE && not (eqb b LOAD) && not one)
    || (leb WMO m && not one)

unfoldable pub kept_by : ℕ → ℕ → ℕ → Bool → Bool
kept_by m a b one = modelled m && ltb a FENCE && ltb b FENCE && not (let_off m a b one)

abbrev pub side_of : Bool → ℕ
side_of false = 0
side_of true = 1

unfoldable pub kept_pair : ℕ → Op → Op → Bool → Bool → Bool
kept_pair m a b later between =
    later && eqb (thread a) (thread b) && (kept_by m (kind_of a) (kind_of b) (eqb (address a) (address b)) || (modelled m && not (fence a) && not (fence b) && between))

unfoldable pub fenced : Trace → ℕ → ℕ → Bool
fenced t x y = any y (λ i. fence (at t i) && ltb x i && eqb (thread (at t i)) (thread (at t x)))

unfoldable pub kept_of : ℕ → Trace → Table
kept_of m t x y =
    let f = frame_of t in
    f.earlier x y && f.operation x && f.operation y && modelled m && (kept_by m (kind_of (at t x)) (kind_of (at t y)) (eqb (address (at t x)) (address (at t y))) || fenced t x y)
