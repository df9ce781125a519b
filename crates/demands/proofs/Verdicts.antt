-- Demand 2: a trace is accepted exactly when a valid order exists, with the first one; it is faulty exactly when none does; a missing source is named, and
-- a circle is shown.
--
--   some-verdict, one-verdict == every well formed trace has a verdict, and no second one
--   accepted-exactly          == an order is handed back exactly where a valid one exists
--   accepted-first            == it is the first of all valid ones
--   faulty-none               == a trace is faulty exactly where no valid order exists
--   missing-named             == the record that is named as lacking its source is the lowest, and there is no valid order
--   circle-faulty             == where a circle is shown, there is no valid order
--   verdict-first             == so the function hands an order back exactly where there is one, and it is the first
--   verdict-heard             == the bytes that C and Rust are handed tell that verdict
--   traces-to-try             == the starred traces and KNOT under each model
--   weaker-models             == an order that is valid under SC is valid under TSO, then PSO, then WMO
--   only-operations           == why kept pairs have to join operations: otherwise there need not be an order where nothing is wrong
use mathlib.Core.Path.{◌≡◌}
use mathlib.Core.Logic.{◌↔◌}
use mathlib.Core.Bool.{So}
use mathlib.Core.List.{List, [], Memᴰ}
use mathlib.Core.Option.{some}
use Prim.Native.Nat.{ℕ, ◌+◌, ◌<◌, ◌≤◌}
use lib.ListN.{length, get_or, take}
use Rattle.laws.specs.Relation.{Table}
use Rattle.laws.specs.Lowest.{Lowest}
use Rattle.laws.specs.Dict.{◌≼◌, Least}
use Rattle.rules.specs.Frame.{Frame, Good}
use Rattle.rules.specs.Order.{Once, Valid}
use Rattle.rules.specs.Rules.{Held, Contradicted, nothing}
use Rattle.rules.specs.Missing.{Missing, Sourced}
use Rattle.rules.specs.Verdict as said
use Rattle.rules.specs.Verdict.{Says, faulty}
use Rattle.rules.proofs.ClearOrders.{Total}
use Rattle.rules.proofs.Counter.{fences, fences_kept, counter}
use Rattle.rules.proofs.Says.{verdict-one, missing-none, order-exactly, order-first, faulty-exactly}
use Rattle.rules.proofs.ComputedVerdict.{verdict?}
use Rattle.rules.proofs.VerdictComputed.{verdict-says}
use Rattle.trace.specs.Meaning.{frame_of}
use Rattle.trace.specs.WellFormed.{well_formed}
use Rattle.trace.specs.declared.Trace.{Trace}
use Rattle.trace.proofs.Good.{good}
use Rattle.pairs.specs.Kept.{SC, TSO, PSO, WMO, MODELS, modelled, kept_of}
use Rattle.pairs.specs.Starred.{trace_of, StarredCase, cases}
use Rattle.pairs.proofs.KeptPairs.{kept-joins}
use Rattle.pairs.proofs.Weaker.{sc-tso, tso-pso, pso-wmo}
use Rattle.edges.specs.ForcedPairs.{answered}
use Rattle.verdict.specs.VerdictOf.{laid, ordered, Told}
use Rattle.verdict.specs.declared.Verdict.{Verdict}
use Rattle.verdict.specs.declared.Outcome.TheVariants.{Circle}
use Rattle.verdict.proofs.Guarantees as owed
use Rattle.reader.specs.Whole.{read_whole}
use Rattle.desk.specs.Text.{text_number}
use Rattle.desk.specs.VerdictBytes.{VERDICT, VerdictAnswered}
use Rattle.desk.proofs.VerdictReadBack.{heard}
use Rattle.desk.proofs.ReadBack as bytes

-- ---- the verdict, over any well formed trace
module _ (t : Trace) (w : So (well_formed t)) (m : ℕ) where
  pub some-verdict : (v : said.Verdict) × Says (frame_of t) (kept_of m t) v
  some-verdict = (verdict? (frame_of t) (kept_of m t), verdict-says (frame_of t) (good t w) (kept_of m t) (kept-joins m t))

  pub one-verdict : (v u : said.Verdict) → Says (frame_of t) (kept_of m t) v → Says (frame_of t) (kept_of m t) u → v ≡ u
  one-verdict = verdict-one (frame_of t) (kept_of m t)

  pub accepted-exactly : (v : said.Verdict) → Says (frame_of t) (kept_of m t) v → ((xs : List ℕ) × (v ≡ said.order xs)) ↔ ((xs : List ℕ) × Valid (frame_of t) (kept_of m t) xs)
  accepted-exactly = order-exactly (frame_of t) (kept_of m t) (good t w)

  pub accepted-first : (xs : List ℕ) → Says (frame_of t) (kept_of m t) (said.order xs) → Valid (frame_of t) (kept_of m t) xs × ((ys : List ℕ) → Valid (frame_of t) (kept_of m t) ys → xs ≼ ys)
  accepted-first = order-first (frame_of t) (kept_of m t)

  pub faulty-none : (v : said.Verdict) → Says (frame_of t) (kept_of m t) v → So (faulty v) ↔ ((xs : List ℕ) → Valid (frame_of t) (kept_of m t) xs → ⊥)
  faulty-none = faulty-exactly (frame_of t) (kept_of m t) (good t w)

  pub missing-named : (x : ℕ) → Says (frame_of t) (kept_of m t) (said.no_source x) → Lowest (Missing (frame_of t)) (some x) × ((xs : List ℕ) → Valid (frame_of t) (kept_of m t) xs → ⊥)
  missing-named x s = (s, missing-none (frame_of t) (kept_of m t) x s.0)

-- ---- what the function hands back, where r is as it is promised
pub circle-faulty : (m : ℕ) (t : Trace) (r : Verdict) → Told t m r → r.outcome ≡ Circle → (xs : List ℕ) → Valid (frame_of t) (kept_of m t) xs → ⊥
circle-faulty = owed.circle-none

pub verdict-first : (m : ℕ) (t : Trace) (r : Verdict) → Told t m r → So (answered m t) → Least (Valid (frame_of t) (kept_of m t)) (ordered r)
verdict-first = owed.order-first

-- read back, the answer and the bytes about a good text tell the verdict on its trace
pub verdict-heard : (text : List ℕ) (m : ℕ) (before after : List ℕ) (r : ℕ) → VerdictAnswered text m before after r → text_number text ≡ 0 → So (modelled m) → VERDICT ≤ length before
    → Says (frame_of (read_whole text).trace) (kept_of m (read_whole text).trace) (heard r (take VERDICT after))
verdict-heard = bytes.verdict-says

-- ---- the traces of the table, one statement over all entries
pub traces-to-try : (c : StarredCase) → Memᴰ c cases → (i : ℕ) → i < MODELS → (r : Verdict) → Told (trace_of c.ops) (SC + i) r → r ≡ laid (get_or c.verdicts i said.none_left)
traces-to-try = owed.starred-told

-- ---- the models
pub weaker-models : (t : Trace) (xs : List ℕ)
    → (Valid (frame_of t) (kept_of SC t) xs → Valid (frame_of t) (kept_of TSO t) xs)
    × (Valid (frame_of t) (kept_of TSO t) xs → Valid (frame_of t) (kept_of PSO t) xs)
    × (Valid (frame_of t) (kept_of PSO t) xs → Valid (frame_of t) (kept_of WMO t) xs)
weaker-models t xs = (sc-tso t xs, tso-pso t xs, pso-wmo t xs)

-- nothing is contradicted, no source is missing and what is held orders every two operations, yet no list is a valid order
pub only-operations : (f : Frame) × (K : Table) × Good f × (Contradicted f K nothing → ⊥) × Sourced f × Total f (Held f K nothing) × Once f [] × ((xs : List ℕ) → Valid f K xs → ⊥)
only-operations = (fences, fences_kept, counter.0, counter.1, counter.2, counter.3, counter.4, counter.5)
