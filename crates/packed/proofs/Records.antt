-- Records and their bytes.
--
--   turned_taken, taken-turned == a record is taken exactly where the bytes begin with it and nothing is wrong with it
--   read-records == the records of a well formed trace are read back
--   records-only == records are read from their own bytes only, behind what stood there, and the trace stays well formed
use mathlib.Core.Path.{◌≡◌, refl, sym, ap, ◌∙◌, subst}
use mathlib.Core.Bool.{So}
use mathlib.Core.List.{List, [], ◌∷◌, ◌++◌, append-nil, append_assoc}
use Prim.Native.Nat.{ℕ, zero, suc, ◌+◌, ◌*◌, ◌<◌}
use native.Mathlib.Numerals.{add-one}
use native.Mathlib.Omega.{arith}
use lib.ListN.{length, take, drop, set, length-drop}
use lib.Seq.{drop-cons, take-suc-set}
use Rattle.std.specs.Prelude.{Option, Some, None, Result, Ok, Err}
use Rattle.trace.specs.Bounds.{RECORDS}
use Rattle.trace.specs.Trace.{at, pushed, up_to}
use Rattle.trace.specs.Fault.{fault_of}
use Rattle.trace.specs.WellFormed.{follows, well_formed}
use Rattle.trace.specs.declared.Op.{Op}
use Rattle.trace.specs.declared.Op.TheVariants.{Load}
use Rattle.trace.specs.declared.Record.{Record}
use Rattle.trace.specs.declared.Trace.{Trace}
use Rattle.trace.specs.declared.Fault.{Fault}
use Rattle.trace.specs.declared.Fault.TheVariants as fault
use Rattle.trace.proofs.WellFormed.{form-iff}
use Rattle.trace.proofs.Faults.{fault-none}
use Rattle.trace.proofs.Places.{pushed_room, pushed-len, pushed-firsts}
use Rattle.trace.proofs.Growth.{pushed-well, up_to-all, up_to-len, up_to-more, up_to-follows}
use Rattle.packed.specs.Layout.{RECORD, record_of, record_bytes}
use Rattle.packed.specs.Entry.{entry_in}
use Rattle.packed.specs.FileRead.{entry_turn, turned_entry, turned_bytes, good, back, read_records}
use Rattle.packed.specs.declared.Reason.{Reason}
use Rattle.packed.specs.declared.Reading.{Reading}
use Rattle.packed.proofs.Codec.{Bytes, bytes_drop, in-record, record-in}
use Rattle.packed.proofs.FileLaid.{records-snoc}
use Rattle.packed.proofs.Firsts.{never}

pub taken-turned : (t : Trace) (b : List ℕ) (o : Op) → entry_in b ≡ Some o → fault_of t o ≡ None → turned_bytes t b ≡ Ok o
unfolding turned_bytes
taken-turned t b o e f = ap (turned_entry t) e ∙ ap (entry_turn o) f

pub turned_taken : (t : Trace) (b : List ℕ) (o : Op) → turned_bytes t b ≡ Ok o → (entry_in b ≡ Some o) × (fault_of t o ≡ None)
unfolding turned_bytes
turned_taken t b o = go (entry_in b) refl
  where
    by-fault : (p : Op) (f : Option Fault) → fault_of t p ≡ f → entry_in b ≡ Some p → entry_turn p f ≡ Ok o → (entry_in b ≡ Some o) × (fault_of t o ≡ None)
    by-fault p None f e q = let s : p ≡ o = cc in (e ∙ ap Some s, ap (fault_of t) (sym s) ∙ f)
    by-fault p (Some fault.PastBound) f e q = let z : ◌≡◌ {A = ℕ} 0 1 = cc in absurd (omega arith)
    by-fault p (Some fault.FirstValue) f e q = let z : ◌≡◌ {A = ℕ} 0 1 = cc in absurd (omega arith)
    by-fault p (Some fault.TooMany) f e q = let z : ◌≡◌ {A = ℕ} 0 1 = cc in absurd (omega arith)
    by-fault p (Some fault.Twice) f e q = let z : ◌≡◌ {A = ℕ} 0 1 = cc in absurd (omega arith)

    go : (x : Option Op) → entry_in b ≡ x → turned_entry t x ≡ Ok o → (entry_in b ≡ Some o) × (fault_of t o ≡ None)
    go (Some p) e q = by-fault p (fault_of t p) refl e q
    go None e q = let z : ◌≡◌ {A = ℕ} 0 1 = cc in absurd (omega arith)

-- what a turn comes to
abbrev next : Trace → List ℕ → ℕ → Result Op Reason → Reading
next t b k (Ok o) = read_records (pushed t o) (drop RECORD b) k
next t b k (Err reason) = back reason (t.len + 1)

step : (t : Trace) (b : List ℕ) (k : ℕ) → read_records t b (suc k) ≡ next t b k (turned_bytes t b)
unfolding read_records
step t b k = go (turned_bytes t b)
  where
    go : (u : Result Op Reason) → elim u [ Ok o ↦ read_records (pushed t o) (drop RECORD b) k | Err reason ↦ back reason (t.len + 1) ] ≡ next t b k u
    go (Ok o) = refl
    go (Err reason) = refl

module _ (t : Trace) (w : So (well_formed t)) where
  pub read-records : (k i : ℕ) → i + k ≡ t.len → read_records (up_to t i) (record_bytes (take k (drop i t.records))) k ≡ good t
  unfolding read_records record_bytes
  read-records zero i e = ap good (ap (up_to t) (let s : i ≡ t.len = omega arith in s) ∙ up_to-all t w)
  read-records (suc k) i e =
      let form = (form-iff t).0 w in
      let h : i < t.len = omega arith in
      let o = at t i in
      let rest = record_bytes (take k (drop (suc i) t.records)) in
      let n = up_to-len t i in
      let here : record_bytes (take (suc k) (drop i t.records)) ≡ record_of o ++ rest = ap (λ (rs : List Record). record_bytes (take (suc k) rs)) (drop-cons t.records i (record { op = Load 0 0 0 }) (omega (arith, form.places, form.fits))) in
      let f : fault_of (up_to t i) o ≡ None = (fault-none (up_to t i) o).1 (omega (arith, n, form.fits), subst (λ (m : ℕ). So (follows (up_to t i) m o)) (sym n) (up_to-follows t w i h)) in
      ap (λ (b : List ℕ). read_records (up_to t i) b (suc k)) here
      ∙ step (up_to t i) (record_of o ++ rest) k
      ∙ ap (next (up_to t i) (record_of o ++ rest) k) (taken-turned (up_to t i) (record_of o ++ rest) o (in-record o rest) f)
      ∙ ap (λ (u : Trace). read_records u rest k) (up_to-more t w i h)
      ∙ read-records k (suc i) (omega arith)

pushed-records : (t : Trace) (o : Op) → So (well_formed t) → t.len < RECORDS → record_bytes (take (pushed t o).len (pushed t o).records) ≡ record_bytes (take t.len t.records) ++ record_of o
pushed-records t o w room =
    let p = ((form-iff t).0 w).places in
    ap (λ (u : Trace). record_bytes (take u.len u.records)) (pushed_room t o room)
    ∙ ap (λ (n : ℕ). record_bytes (take n (set t.records t.len (record { op = o })))) (add-one t.len)
    ∙ ap record_bytes (take-suc-set t.records t.len (record { op = o }) (omega (arith, p)))
    ∙ records-snoc (take t.len t.records) (record { op = o })

-- what reading records behind t from the bytes b comes to
pub record Behind (t : Trace) (b : List ℕ) (k : ℕ) (u : Trace) : Type 0 where
  pub well : So (well_formed u)
  pub len : u.len ≡ t.len + k
  pub firsts : u.firsts ≡ t.firsts
  pub bytes : record_bytes (take u.len u.records) ≡ record_bytes (take t.len t.records) ++ b

pub records-only : (k : ℕ) (t : Trace) (b : List ℕ) (u : Trace) → So (well_formed t) → Bytes b → length b ≡ RECORD * k → read_records t b k ≡ good u → Behind t b k u
unfolding read_records
records-only zero t [] u w h l q =
    let s : t ≡ u = ap (λ (r : Reading). r.trace) q in
    subst (λ (u : Trace). Behind t [] 0 u) s (record { well = w; len = omega arith; firsts = refl; bytes = sym (append-nil (record_bytes (take t.len t.records))) })
records-only zero t (x ∷ b) u w h l q = absurd (omega (arith, l))
records-only (suc k) t b u w h l q = go (turned_bytes t b) refl (sym (step t b k) ∙ q) (λ o. records-only k (pushed t o) (drop RECORD b) u)
  where
    go : (x : Result Op Reason) → turned_bytes t b ≡ x → next t b k (turned_bytes t b) ≡ good u
        → ((o : Op) → So (well_formed (pushed t o)) → Bytes (drop RECORD b) → length (drop RECORD b) ≡ RECORD * k → read_records (pushed t o) (drop RECORD b) k ≡ good u → Behind (pushed t o) (drop RECORD b) k u) → Behind t b (suc k) u
    go (Err reason) e q rec = absurd (never (ap (next t b k) (sym e) ∙ q))
    go (Ok o) e q rec =
        let p = turned_taken t b o e in
        let f = (fault-none t o).0 p.1 in
        let r = rec o (pushed-well t o f.0 w f.1) (bytes_drop RECORD b h) (omega (arith, length-drop RECORD b, l)) (ap (next t b k) (sym e) ∙ q) in
        record {
          well = r.well;
          len = omega (arith, r.len, pushed-len t o f.0);
          firsts = r.firsts ∙ pushed-firsts t o f.0;
          bytes =
              r.bytes
              ∙ ap (λ (x : List ℕ). x ++ drop RECORD b) (pushed-records t o w f.0)
              ∙ append_assoc (record_bytes (take t.len t.records)) (record_of o) (drop RECORD b)
              ∙ ap (λ (x : List ℕ). record_bytes (take t.len t.records) ++ x) (sym (record-in b o h (omega (arith, l)) p.0));
        }
