-- Raw numbers that keep their bounds.
--
--   load-within, store-within, swap-within, fence-within == what `in_bounds` says of the numbers of each form
--   in-bounds-iff         == a record's raw form is in bounds exactly when the record is
--   form-checked, form-nothing == what the form of a line leads to, cut or not
--   init-late, init-nothing    == what an init line leads to, cut or not
--   beginning-cut, beginning-none == whether it gives a first value, cut or not
--   checked-cut           == cutting a number past every bound changes nothing that a record gets
use Rattle.std.specs.Prelude.{Option, Some, None, Err}
use mathlib.Core.Path.{◌≡◌, refl, sym, ap, ◌∙◌}
use mathlib.Core.Bool.{Bool, So, ◌&&◌}
use mathlib.Core.Logic.{◌↔◌, inl, inr}
use mathlib.Core.List.{List}
use Prim.Native.Nat.{ℕ, ◌<◌, ◌≤◌}
use native.Mathlib.Omega.{arith}
use native.Mathlib.Decide.{dec_lt}
use lib.Dec.{ltb}
use borrow.Author.Tests.{lt-ltb, le-ltb}
use Rattle.laws.proofs.Tests.{and-iff, so-lt, test}
use Rattle.trace.specs.Bounds.{THREADS, ADDRESSES, VALUES}
use Rattle.trace.specs.FormFacts.{Bounded}
use Rattle.trace.specs.declared.Op.{Op}
use Rattle.trace.specs.declared.Op.TheVariants as op
use Rattle.trace.specs.declared.Trace.{Trace}
use Rattle.text.specs.Number.{cut}
use Rattle.reader.specs.LineForms.{cut_raw, cut_form, init, cut_init, raw_of}
use Rattle.reader.specs.declared.Init.{Init}
use Rattle.reader.specs.Answer.{in_bounds, checked, late, unformed, checked_form, beginning}
use Rattle.reader.specs.declared.Raw.{Raw}
use Rattle.reader.specs.declared.Raw.TheVariants.{Load, Store, Swap, Fence}
use Rattle.reader.specs.declared.Reason.TheVariants.{NoForm}

pub load-within : {raw : Raw} {t a r : ℕ} → So (in_bounds raw) → raw ≡ Load t a r → (t < THREADS) × (a < ADDRESSES) × (r < VALUES)
load-within {t} {a} {r} h e = let p = (and-iff (and-iff (so-lt {m = t}) (so-lt {m = a})) (so-lt {m = r})).0 (rw e at h) in (p.0.0, p.0.1, p.1)

pub store-within : {raw : Raw} {t a w : ℕ} → So (in_bounds raw) → raw ≡ Store t a w → (t < THREADS) × (a < ADDRESSES) × (w < VALUES)
store-within {t} {a} {w} h e = let p = (and-iff (and-iff (so-lt {m = t}) (so-lt {m = a})) (so-lt {m = w})).0 (rw e at h) in (p.0.0, p.0.1, p.1)

pub swap-within : {raw : Raw} {t a r b w : ℕ} → So (in_bounds raw) → raw ≡ Swap t a r b w → (t < THREADS) × (a < ADDRESSES) × (r < VALUES) × (b < ADDRESSES) × (w < VALUES)
swap-within {t} {a} {r} {b} {w} h e =
    let p = (and-iff (and-iff (and-iff (and-iff (so-lt {m = t}) (so-lt {m = a})) (so-lt {m = r})) (so-lt {m = b})) (so-lt {m = w})).0 (rw e at h) in
    (p.0.0.0.0, p.0.0.0.1, p.0.0.1, p.0.1, p.1)

pub fence-within : {raw : Raw} {t : ℕ} → So (in_bounds raw) → raw ≡ Fence t → t < THREADS
fence-within h e = so-lt.0 (rw e at h)

three-low : (t a v : ℕ) → So (ltb t THREADS && ltb a ADDRESSES && ltb v VALUES) ↔ (((t < THREADS) × (a < ADDRESSES)) × (v < VALUES))
three-low t a v = and-iff (and-iff so-lt so-lt) so-lt

pub in-bounds-iff : (o : Op) → So (in_bounds (raw_of o)) ↔ Bounded o
in-bounds-iff (op.Load t a r) = let e = three-low t a r in (λ s. let p = e.0 s in omega arith, λ b. e.1 (omega arith))
in-bounds-iff (op.Store t a w) = let e = three-low t a w in (λ s. let p = e.0 s in omega arith, λ b. e.1 (omega arith))
in-bounds-iff (op.Swap t a r w) =
    let e = and-iff (and-iff (three-low t a r) (so-lt {m = a} {n = ADDRESSES})) (so-lt {m = w} {n = VALUES}) in
    (λ s. let p = e.0 s in omega arith, λ b. e.1 (omega arith))
in-bounds-iff (op.Fence t) = let e = so-lt {m = t} {n = THREADS} in (λ s. let p = e.0 s in omega arith, λ b. e.1 (omega arith))

-- a bound that is not past every bound does not see the cut
cut-ltb : (n b : ℕ) → b ≤ VALUES → ltb (cut n) b ≡ ltb n b
cut-ltb n b h = elim (dec_lt n b) [ yes l ↦ lt-ltb (cut n) b (omega arith) ∙ sym (lt-ltb n b l) | no l ↦ le-ltb (cut n) b (omega arith) ∙ sym (le-ltb n b (omega arith)) ]

cut-thread : (n : ℕ) → ltb (cut n) THREADS ≡ ltb n THREADS
cut-thread n = cut-ltb n THREADS (omega arith)

cut-address : (n : ℕ) → ltb (cut n) ADDRESSES ≡ ltb n ADDRESSES
cut-address n = cut-ltb n ADDRESSES (omega arith)

cut_below : (n : ℕ) → ltb (cut n) VALUES ≡ ltb n VALUES
cut_below n = cut-ltb n VALUES (omega arith)

in-bounds-cut : (raw : Raw) → in_bounds (cut_raw raw) ≡ in_bounds raw
in-bounds-cut (Load t a r) = rw (cut-thread t, cut-address a, cut_below r)
in-bounds-cut (Store t a w) = rw (cut-thread t, cut-address a, cut_below w)
in-bounds-cut (Swap t a r b w) = rw (cut-thread t, cut-address a, cut_below r, cut-address b, cut_below w)
in-bounds-cut (Fence t) = rw (cut-thread t)

-- a number below a bound is not cut
uncut : (n : ℕ) → n < VALUES → cut n ≡ n
uncut n h = omega arith

cut-same : (raw : Raw) → So (in_bounds raw) → cut_raw raw ≡ raw
cut-same (Load t a r) h = let p = load-within {t = t} {a = a} {r = r} h refl in rw (uncut t (omega arith), uncut a (omega arith), uncut r p.2)
cut-same (Store t a w) h = let p = store-within {t = t} {a = a} {w = w} h refl in rw (uncut t (omega arith), uncut a (omega arith), uncut w p.2)
cut-same (Swap t a r b w) h =
    let p = swap-within {t = t} {a = a} {r = r} {b = b} {w = w} h refl in
    rw (uncut t (omega arith), uncut a (omega arith), uncut r p.2, uncut b (omega arith), uncut w p.4)
cut-same (Fence t) h = let p : t < THREADS = fence-within {t = t} h refl in rw (uncut t (omega arith))

-- what a raw record gets does not depend on the cut
pub checked-cut : (t : Trace) (raw : Raw) → checked t (cut_raw raw) ≡ checked t raw
unfolding checked
checked-cut t raw =
    elim (test (in_bounds raw)) [
      | inl h ↦ ap (checked t) (cut-same raw h)
      | inr h ↦ rw (in-bounds-cut raw, h)
    ]

pub form-checked : (t : Trace) (f : Option Raw) (i : Option Init) (raw : Raw) → Some raw ≡ cut_form f → checked t raw ≡ checked_form t f i
form-checked t (Some r) i raw e = ap (checked t) (let q : raw ≡ cut_raw r = cc in q) ∙ checked-cut t r
form-checked t None i raw e = let z : ◌≡◌ {A = ℕ} 0 1 = cc in absurd (omega arith)

pub form-nothing : (t : Trace) (f : Option Raw) (i : Option Init) → None ≡ cut_form f → unformed i ≡ checked_form t f i
form-nothing t (Some r) i e = let z : ◌≡◌ {A = ℕ} 0 1 = cc in absurd (omega arith)
form-nothing t None i e = refl

-- nor does what an init line gets
late-cut : (a v : ℕ) → late (cut a) (cut v) ≡ late a v
unfolding late
late-cut a v = rw (cut-address a, cut_below v)

pub init-late : (i : Option Init) (a v : ℕ) → Some (init a v) ≡ cut_init i → late a v ≡ unformed i
init-late (Some i) a v e = ap (λ (j : Option Init). unformed j) e ∙ late-cut i.addr i.value
init-late None a v e = let z : ◌≡◌ {A = ℕ} 0 1 = cc in absurd (omega arith)

pub init-nothing : (i : Option Init) → None ≡ cut_init i → Err NoForm ≡ unformed i
init-nothing (Some i) e = let z : ◌≡◌ {A = ℕ} 0 1 = cc in absurd (omega arith)
init-nothing None e = refl

-- nor whether an init line gives a first value
pub beginning-cut : (given : List Bool) (i : Option Init) (a v : ℕ) → Some (init a v) ≡ cut_init i → beginning given (Some (init a v)) ≡ beginning given i
beginning-cut given (Some i) a v e = ap (beginning given) e ∙ elim (test (ltb i.addr ADDRESSES && ltb i.value VALUES)) [
  | inl h ↦ let p = (and-iff (so-lt {m = i.addr}) (so-lt {m = i.value})).0 h in rw (uncut i.addr (omega (arith, p.0)), uncut i.value p.1) refl
  | inr h ↦ rw (cut-address i.addr, cut_below i.value, h) refl
]
beginning-cut given None a v e = let z : ◌≡◌ {A = ℕ} 0 1 = cc in absurd (omega arith)

pub beginning-none : (given : List Bool) (i : Option Init) → None ≡ cut_init i → None ≡ beginning given i
beginning-none given (Some i) e = let z : ◌≡◌ {A = ℕ} 0 1 = cc in absurd (omega arith)
beginning-none given None e = refl
