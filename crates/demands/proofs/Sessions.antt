-- Demand 3: after any calls a session equals one opened afresh, it is contradicted exactly when the forced edges close a circle, and otherwise a pair is held
-- exactly when the rules force it.
--
--   calls-afresh         == after adding, supposing, asking and taking back in any mixture: the session on all records with the pairs still standing
--   contradicted-exactly == it says contradicted exactly when the forced edges close a circle
--   held-exactly         == otherwise its table has a pair exactly when the rules force it
--   held-always          == and that pair is so in every valid order that keeps the pairs that stand
--   order-clears         == with such an order it is not contradicted
--   waits-no-source      == it tells that a record waits exactly where the verdict on its records so far is no source, with that record
--   held-in-bytes        == where a pair of the table stands in the bytes that C and Rust hold
use mathlib.Core.Path.{◌≡◌}
use mathlib.Core.Logic.{◌↔◌}
use mathlib.Core.Bool.{false, So}
use mathlib.Core.List.{List, []}
use Prim.Native.Nat.{ℕ, ◌+◌, ◌*◌, ◌/◌, ◌%◌, ◌<◌}
use Rattle.laws.specs.Bits.{bit_of}
use Rattle.laws.specs.Places.{Before}
use Rattle.rules.specs.Order.{Keeps, Valid}
use Rattle.rules.specs.Rules.{Held, Contradicted}
use Rattle.trace.specs.Bounds.{RECORDS}
use Rattle.trace.specs.Meaning.{frame_of}
use Rattle.trace.specs.declared.Trace.{Trace}
use Rattle.rows.specs.Rows.{bit}
use Rattle.pairs.specs.Kept.{kept_of}
use Rattle.verdict.specs.VerdictOf.{Told}
use Rattle.verdict.specs.declared.Verdict.{Verdict}
use Rattle.verdict.specs.declared.Outcome.TheVariants.{NoSource}
use Rattle.session.specs.Stack.{among, standing}
use Rattle.session.specs.Opening.{openable}
use Rattle.session.specs.Closings.{Closings}
use Rattle.session.specs.Session.{Intact}
use Rattle.session.specs.Entries.{open_of, waiting_of}
use Rattle.session.specs.Numbers.{Act}
use Rattle.session.specs.Calls.{session_after, recorded_after, standing_after, suppose_all}
use Rattle.session.specs.declared.Answer.TheVariants.{Waits}
use Rattle.session.specs.declared.Session.{Session}
use Rattle.session.proofs.Standing.{after-again}
use Rattle.session.proofs.Promises.{contradicted-iff, held-iff, held-true, never}
use Rattle.desk.specs.SessionHead.{table_at}
use Rattle.desk.proofs.Sourceless.{waits-told}
use Rattle.desk.proofs.Tabled.{table-bit}

-- refused calls included; taking back never removes a record
pub calls-afresh : (C : Closings) (t : Trace) (m : ℕ) → So (openable t m) → (cs : List Act)
    → session_after C (open_of C t m).session cs ≡ session_after C (open_of C (recorded_after t cs) m).session (suppose_all (standing_after t [] cs))
calls-afresh = after-again

-- ---- any session that is one: each that calls lead to is
module _ (C : Closings) (s : Session) (i : Intact C s) where
  pub contradicted-exactly : So s.contradicted ↔ Contradicted (frame_of s.trace) (kept_of s.model s.trace) (among (standing s.stack))
  contradicted-exactly = contradicted-iff s C i

  pub held-exactly : s.contradicted ≡ false → (x y : ℕ) → So (bit s.held x y) ↔ Held (frame_of s.trace) (kept_of s.model s.trace) (among (standing s.stack)) x y
  held-exactly = held-iff s C i

  pub held-always : (xs : List ℕ) → Valid (frame_of s.trace) (kept_of s.model s.trace) xs → Keeps (among (standing s.stack)) xs → (x y : ℕ) → So (bit s.held x y) → Before xs x y
  held-always = held-true s C i

  pub order-clears : (xs : List ℕ) → Valid (frame_of s.trace) (kept_of s.model s.trace) xs → Keeps (among (standing s.stack)) xs → s.contradicted ≡ false
  order-clears = never s C i

  pub waits-no-source : (r : Verdict) → Told s.trace s.model r → (x : ℕ) → ((waiting_of C s).answer ≡ Waits x) ↔ (r.outcome ≡ NoSource x)
  waits-no-source = waits-told C s i

-- record y's bit in the row of record x is bit y % 8 of byte x * RECORDS / 8 + y / 8 of the table
pub held-in-bytes : (held : List ℕ) (x y : ℕ) → x < RECORDS → y < RECORDS → bit_of (table_at held (x * RECORDS / 8 + y / 8)) (y % 8) ≡ bit held x y
held-in-bytes = table-bit
