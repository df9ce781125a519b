-- How well formed traces grow: the empty one, one record more, the first k records. A reader goes this way, a line at a time.
--
--   empty-well, pushed-well == the empty trace is well formed; so is a well formed one with a record more that may follow
--   started-well            == so is a well formed one of no records with another first value
--   follows-agree           == whether a record may follow depends on the first values and the records before it alone
--   up_to-none, up_to-all     == the first 0 records are the empty trace with t's first values; the first len are the trace itself
--   up_to-len, up_to-more     == the first k records are k; with one more pushed they are the first k + 1
--   up_to-firsts             == they begin with the same values
--   up_to-follows            == and that one may follow
--   up_to-well               == the first k records are well formed
use mathlib.Core.Path.{◌≡◌, refl, sym, ap, ◌∙◌}
use mathlib.Core.Logic.{inl, inr}
use mathlib.Core.Bool.{So}
use Prim.Native.Nat.{ℕ, suc, ◌<◌, ◌≤◌}
use native.Mathlib.Decide.{dec_lt}
use native.Mathlib.Omega.{arith}
use lib.ListN.{length, length-set, length-replicate, get_or-replicate}
use Rattle.laws.proofs.Tests.{eq?, three, last?}
use Rattle.trace.specs.Bounds.{RECORDS, ADDRESSES, VALUES}
use Rattle.trace.specs.Op.{address}
use Rattle.trace.specs.Trace.{at, idle, empty, started, pushed, up_to, first}
use Rattle.trace.specs.WellFormed.{follows, well_formed}
use Rattle.trace.specs.FormFacts.{Follows, Form}
use Rattle.trace.specs.declared.Op.{Op}
use Rattle.trace.specs.declared.Record.{Record}
use Rattle.trace.specs.declared.Trace.{Trace}
use Rattle.trace.proofs.Places.{same-trace, empty-rest, started-first, started-other, pushed-len, pushed-firsts, pushed-places, pushed-last, pushed-other, up_to-places, up_to-used, up_to-rest}
use Rattle.trace.proofs.WellFormed.{follows-iff, form-iff}

pub follows-agree : (t u : Trace) (n : ℕ) (o : Op) → ((a : ℕ) → first u a ≡ first t a) → ((j : ℕ) → j < n → at u j ≡ at t j) → Follows t n o → Follows u n o
follows-agree t u n o e h f = record {
  keeps = f.keeps;
  fresh = λ w. record {
    later = rw (e (address o)) (f.fresh w).later;
    once = λ j l x. (f.fresh w).once j l (rw (h j l) at x);
  };
}

empty-form : Form empty
unfolding first
empty-form = record {
  places = length-replicate {A = Record} RECORDS (record { op = idle });
  fits = omega arith;
  addresses = length-replicate {A = ℕ} ADDRESSES 0;
  begins = λ a h. rw (get_or-replicate {A = ℕ} ADDRESSES a 0 0 h) (omega arith);
  used = λ i h. absurd (omega arith);
  rest = λ i h l. empty-rest i l;
}

pub empty-well : So (well_formed empty)
empty-well = (form-iff empty).1 empty-form

pub started-well : (t : Trace) (a v : ℕ) → t.len ≡ 0 → v < VALUES → So (well_formed t) → So (well_formed (started t a v))
unfolding started
started-well t a v none low w = (form-iff (started t a v)).1 (record {
  places = f.places;
  fits = f.fits;
  addresses = length-set t.firsts a v ∙ f.addresses;
  begins = begins;
  used = λ i h. absurd (omega arith);
  rest = f.rest;
})
  where
    f : Form t
    f = (form-iff t).0 w

    begins : (b : ℕ) → b < ADDRESSES → first (started t a v) b < VALUES
    begins b h = elim (eq? b a) [
      | inl e ↦ rw (e, started-first t a v f.addresses (omega arith)) low
      | inr d ↦ rw (started-other t a v b d) (f.begins b h)
    ]

module _ (t : Trace) (o : Op) (room : t.len < RECORDS) (f : Form t) (g : Follows t t.len o) where
  -- what stood before stands there still
  kept : (i : ℕ) → i < t.len → at (pushed t o) i ≡ at t i
  kept i h = pushed-other t o room i (λ e. omega arith)

  agrees : (n : ℕ) (p : Op) → n ≤ t.len → Follows t n p → Follows (pushed t o) n p
  unfolding first
  agrees n p h = follows-agree t (pushed t o) n p (λ a. rw (pushed-firsts t o room) refl) (λ j l. kept j (omega arith))

  pushed-form : Form (pushed t o)
  unfolding first
  pushed-form = record {
    places = pushed-places t o room ∙ f.places;
    fits = rw (pushed-len t o room) (omega arith);
    addresses = rw (pushed-firsts t o room) f.addresses;
    begins = λ a h. rw (pushed-firsts t o room) (f.begins a h);
    used = λ i h. elim (last? {i = i} {n = t.len} (let e = pushed-len t o room in omega arith)) [
      | inl e ↦ rw (e, pushed-last t o room f.places) (agrees t.len o (omega arith) g)
      | inr l ↦ rw (kept i l) (agrees i (at t i) (omega arith) (f.used i l))
    ];
    rest = λ i h l. let e = pushed-len t o room in pushed-other t o room i (λ d. omega arith) ∙ f.rest i (omega arith) l;
  }

pub pushed-well : (t : Trace) (o : Op) → t.len < RECORDS → So (well_formed t) → So (follows t t.len o) → So (well_formed (pushed t o))
pushed-well t o room w s = (form-iff (pushed t o)).1 (pushed-form t o room ((form-iff t).0 w) ((follows-iff t t.len o).0 s))

pub up_to-len : (t : Trace) (k : ℕ) → (up_to t k).len ≡ k
unfolding up_to
up_to-len t k = refl

pub up_to-none : (t : Trace) → up_to t 0 ≡ record { records = empty.records; len = 0; firsts = t.firsts }
unfolding up_to
up_to-none t = refl

pub up_to-firsts : (t : Trace) (k : ℕ) → (up_to t k).firsts ≡ t.firsts
unfolding up_to
up_to-firsts t k = refl

module _ (t : Trace) (w : So (well_formed t)) where
  form : Form t
  form = (form-iff t).0 w

  pub up_to-all : up_to t t.len ≡ t
  up_to-all = same-trace (up_to t t.len) t (up_to-len t t.len) (up_to-firsts t t.len) (up_to-places t form.places t.len form.fits) form.places places
    where
      places : (i : ℕ) → i < RECORDS → at (up_to t t.len) i ≡ at t i
      places i h =
          elim (dec_lt i t.len) [
            | yes l ↦ up_to-used t form.places t.len form.fits i l
            | no l ↦ up_to-rest t form.places t.len form.fits i (omega arith) h ∙ sym (form.rest i (omega arith) h)
          ]

  module _ (k : ℕ) (h : k ≤ t.len) where
    fits : k ≤ RECORDS
    fits = let b = form.fits in omega arith

    agrees-up_to : (n : ℕ) (o : Op) → n ≤ k → Follows t n o → Follows (up_to t k) n o
    unfolding first
    agrees-up_to n o l = follows-agree t (up_to t k) n o (λ a. rw (up_to-firsts t k) refl) (λ j b. up_to-used t form.places k fits j (omega arith))

    up_to-form : Form (up_to t k)
    unfolding first
    up_to-form = record {
      places = up_to-places t form.places k fits;
      fits = rw (up_to-len t k) fits;
      addresses = rw (up_to-firsts t k) form.addresses;
      begins = λ a l. rw (up_to-firsts t k) (form.begins a l);
      used = λ i l.
          let e = up_to-len t k in
          rw (up_to-used t form.places k fits i (omega arith)) (agrees-up_to i (at t i) (omega arith) (form.used i (omega arith)));
      rest = λ i l b. let e = up_to-len t k in up_to-rest t form.places k fits i (omega arith) b;
    }

    pub up_to-well : So (well_formed (up_to t k))
    up_to-well = (form-iff (up_to t k)).1 up_to-form

  pub up_to-follows : (k : ℕ) → k < t.len → So (follows (up_to t k) k (at t k))
  up_to-follows k h = (follows-iff (up_to t k) k (at t k)).1 (agrees-up_to k (omega arith) k (at t k) (omega arith) (form.used k h))

  pub up_to-more : (k : ℕ) → k < t.len → pushed (up_to t k) (at t k) ≡ up_to t (suc k)
  up_to-more k h =
      same-trace (pushed u o) (up_to t (suc k))
      (omega (arith, pushed-len u o room, len, up_to-len t (suc k)))
      (pushed-firsts u o room ∙ up_to-firsts t k ∙ sym (up_to-firsts t (suc k)))
      (pushed-places u o room ∙ places)
      (up_to-places t form.places (suc k) next)
      at_each
    where
      u : Trace
      u = up_to t k

      o : Op
      o = at t k

      len : u.len ≡ k
      len = up_to-len t k

      next : suc k ≤ RECORDS
      next = let b = form.fits in omega arith

      room : u.len < RECORDS
      room = omega (arith, len, next)

      places : length u.records ≡ RECORDS
      places = up_to-places t form.places k (omega (arith, next))

      at_each : (i : ℕ) → i < RECORDS → at (pushed u o) i ≡ at (up_to t (suc k)) i
      at_each i b =
          elim (three i k) [
            | inl l ↦ pushed-other u o room i (λ e. omega (arith, len)) ∙ up_to-used t form.places k (omega (arith, next)) i l ∙ sym (up_to-used t form.places (suc k) next i (omega arith))
            | inr m ↦ elim m [
              | inl e ↦ ap (at (pushed u o)) (e ∙ sym len) ∙ pushed-last u o room places ∙ ap (at t) (sym e) ∙ sym (up_to-used t form.places (suc k) next i (omega arith))
              | inr l ↦ pushed-other u o room i (λ e. omega (arith, len)) ∙ up_to-rest t form.places k (omega (arith, next)) i (omega arith) b ∙ sym (up_to-rest t form.places (suc k) next i l b)
            ]
          ]
