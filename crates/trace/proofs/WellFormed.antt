-- What the tests of a trace's form say: each passes exactly where its meaning in specs/FormFacts holds.
--
--   bounded-iff, writes-iff, written-before-iff, fresh-iff, follows-iff, idle-iff == the tests that the form is made of
--   form-iff                                                                      == the form itself
use mathlib.Core.Path.{◌≡◌, refl, ap}
use mathlib.Core.Logic.{◌↔◌}
use mathlib.Core.Bool.{So, false≢true}
use Prim.Native.Nat.{ℕ, ◌<◌}
use Rattle.laws.proofs.Tests.{and-iff, not_iff, imp-iff, same-iff, so-eq, so-lt, so-le, all-iff, any-iff}
use Rattle.trace.specs.Op.{address, written, writes, writes_to}
use Rattle.trace.specs.Trace.{at, idle}
use Rattle.trace.specs.WellFormed.{bounded, written_before, fresh, follows, is_idle, well_formed}
use Rattle.trace.specs.FormFacts.{Bounded, WritesThere, Fresh, Follows, Form}
use Rattle.trace.specs.declared.Op.{Op}
use Rattle.trace.specs.declared.Op.TheVariants.{Load, Store, Swap, Fence}
use Rattle.trace.specs.declared.Trace.{Trace}

pub bounded-iff : (o : Op) → So (bounded o) ↔ Bounded o
unfolding bounded
bounded-iff o =
    let e = and-iff (and-iff (and-iff so-lt so-lt) so-lt) so-lt in (
      λ s. let p = e.0 s in record { thread-below = p.0.0.0; address_below = p.0.0.1; read_below = p.0.1; written_below = p.1 },
      λ b. e.1 (((b.thread-below, b.address_below), b.read_below), b.written_below),
    )

pub writes-iff : (o : Op) (a v : ℕ) → So (writes_to o a v) ↔ WritesThere o a v
writes-iff o a v =
    let e = and-iff (and-iff (same-iff {a = writes o}) so-eq) so-eq in (
      λ s. let p = e.0 s in record { does = p.0.0; there = p.0.1; value = p.1 },
      λ w. e.1 ((w.does, w.there), w.value),
    )

pub written-before-iff : (t : Trace) (n a v : ℕ) → So (written_before t n a v) ↔ ((j : ℕ) × (j < n) × WritesThere (at t j) a v)
unfolding written_before
written-before-iff t n a v = any-iff (λ j. writes-iff (at t j) a v)

pub fresh-iff : (t : Trace) (n : ℕ) (o : Op) → So (fresh t n o) ↔ (So (writes o) → Fresh t n o)
unfolding fresh
fresh-iff t n o =
    let e = and-iff (not_iff so-eq) (not_iff (written-before-iff t n (address o) (written o))) in
    imp-iff (
      λ s. record { later = (e.0 s).0; once = λ j h w. (e.0 s).1 (j, h, w) },
      λ f. e.1 (f.later, λ x. f.once x.0 x.1 x.2),
    )

pub follows-iff : (t : Trace) (n : ℕ) (o : Op) → So (follows t n o) ↔ Follows t n o
unfolding follows
follows-iff t n o =
    let e = and-iff (bounded-iff o) (fresh-iff t n o) in
    (λ s. record { keeps = (e.0 s).0; fresh = (e.0 s).1 }, λ f. e.1 (f.keeps, f.fresh))

is-idle : (o : Op) → So (is_idle o) → o ≡ idle
unfolding is_idle
is-idle (Load t a r) s = absurd (false≢true s)
is-idle (Store t a w) s = absurd (false≢true s)
is-idle (Swap t a r w) s = absurd (false≢true s)
is-idle (Fence t) s = ap Fence (so-eq.0 s)

pub idle-iff : (o : Op) → So (is_idle o) ↔ (o ≡ idle)
unfolding is_idle
idle-iff o = (is-idle o, λ e. rw e refl)

pub form-iff : (t : Trace) → So (well_formed t) ↔ Form t
unfolding well_formed
form-iff t =
    let e =
    and-iff (and-iff (and-iff (and-iff (and-iff so-eq so-le) so-eq) (all-iff (λ a. so-lt))) (all-iff (λ i. follows-iff t i (at t i)))) (all-iff (λ i. imp-iff (idle-iff (at t i)))) in (
      λ s.
          let p = e.0 s in
          let a = p.0.0 in
          record { places = a.0.0.0; fits = a.0.0.1; addresses = a.0.1; begins = a.1; used = p.0.1; rest = λ i h l. p.1 i l (so-le.1 h) },
      λ f. e.1 (((((f.places, f.fits), f.addresses), f.begins), f.used), λ i l h. f.rest i (so-le.0 h) l),
    )
