-- A record that joins a trace.
--
--   joins-none     == nothing is wrong with it
--   joined-opens   == the longer trace opens where the shorter one did
--   joined-allowed == and the pairs that stood may stand
--   joined-stands  == so may what a session keeps of them
use Rattle.std.specs.Prelude.{Option, Some, None}
use mathlib.Core.Path.{◌≡◌, refl, sym, subst}
use mathlib.Core.Bool.{So, not, false≢true}
use mathlib.Core.List.{List}
use Prim.Native.Nat.{ℕ, ◌<◌}
use native.Mathlib.Omega.{arith}
use Rattle.trace.specs.Op.{fence}
use Rattle.trace.specs.Trace.{pushed}
use Rattle.trace.specs.Bounds.{RECORDS}
use Rattle.trace.specs.WellFormed.{follows}
use Rattle.trace.specs.Fault.{fault_of}
use Rattle.trace.specs.Meaning.{frame_of}
use Rattle.trace.specs.declared.Op.{Op}
use Rattle.trace.specs.declared.Fault.{Fault}
use Rattle.trace.specs.declared.Fault.TheVariants.{PastBound, FirstValue, TooMany, Twice}
use Rattle.trace.specs.declared.Trace.{Trace}
use Rattle.trace.proofs.Meaning.{operation-iff}
use Rattle.trace.proofs.Faults.{fault-none}
use Rattle.trace.proofs.Growth.{pushed-well}
use Rattle.trace.proofs.Places.{pushed-len, pushed-other}
use Rattle.session.specs.Stack.{supposable, Allowed, Stands}
use Rattle.session.specs.Opening.{is_done, openable}
use Rattle.session.specs.Entries.{fault_answer, joins}
use Rattle.session.specs.declared.Pair.{Pair}
use Rattle.session.specs.declared.Stack.{Stack}
use Rattle.session.proofs.Pairs.{supposable-iff}
use Rattle.session.proofs.Openings.{openable-iff}

module _ (t : Trace) (o : Op) (d : So (joins t o)) where
  pub joins-none : fault_of t o ≡ None
  unfolding joins
  joins-none = go (fault_of t o) d
    where
      go : (f : Option Fault) → So (is_done (fault_answer f)) → f ≡ None
      go None s = refl
      go (Some PastBound) s = absurd (false≢true s)
      go (Some FirstValue) s = absurd (false≢true s)
      go (Some TooMany) s = absurd (false≢true s)
      go (Some Twice) s = absurd (false≢true s)

  -- there is room, and it may follow
  pub joined-follows : (t.len < RECORDS) × So (follows t t.len o)
  joined-follows = (fault-none t o).0 joins-none

  pub joined-opens : (m : ℕ) → So (openable t m) → So (openable (pushed t o) m)
  joined-opens m p =
      let a = (openable-iff t m).0 p in
      (openable-iff (pushed t o) m).1 (record { model = a.model; form = pushed-well t o joined-follows.0 a.form joined-follows.1 })

  -- what was an operation is one still
  still : (x : ℕ) → So ((frame_of t).operation x) → So ((frame_of (pushed t o)).operation x)
  still x s =
      let p = (operation-iff t x).0 s in
      let l = pushed-len t o joined-follows.0 in
      let h : x < (pushed t o).len = omega arith in
      (operation-iff (pushed t o) x).1 (h, subst (λ (p : Op). So (not (fence p))) (sym (pushed-other t o joined-follows.0 x (omega arith))) p.1)

  still-supposable : (p : Pair) → So (supposable t p) → So (supposable (pushed t o) p)
  still-supposable p g = let s = (supposable-iff t p).0 g in (supposable-iff (pushed t o) p).1 ((still _ s.0.0, still _ s.0.1), s.1)

  pub joined-allowed : (ps : List Pair) → Allowed t ps → Allowed (pushed t o) ps
  joined-allowed ps al = record { room = al.room; good = λ i h. still-supposable _ (al.good i h) }

  pub joined-stands : (k : Stack) → Stands t k → Stands (pushed t o) k
  joined-stands k s = record { long = s.long; room = s.room; used = λ i h. still-supposable _ (s.used i h); rest = s.rest }
