-- The four forms: `form_of` takes exactly the renderings, and two records never have one rendering.
--
--   form-render              == a rendering is read back
--   form-only                == what is read is rendered by the very line
--   form-exactly, no-form    == the same, both ways
--   render-one, render-op-one == two records with one rendering are one
--   render-feed              == no line feed stands in a rendering
--   op-raw                   == a record comes back from its raw one
--   LONGEST, render-long     == how long the line of a record in bounds is at the most
--   render-short             == so it is never too long
use Rattle.std.specs.Prelude.{Option, Some, None}
use mathlib.Core.Path.{◌≡◌, refl, sym, ap, ◌∙◌, subst}
use mathlib.Core.Logic.{◌↔◌}
use mathlib.Core.Bool.{So}
use mathlib.Core.List.{List, [], ◌∷◌}
use Prim.Native.Nat.{ℕ, zero, suc, ◌≤◌, ◌<◌}
use native.Mathlib.Nat.{suc_inj}
use native.Mathlib.Omega.{arith}
use lib.ListN.{length, get_or, drop, length-drop}
use lib.Seq.{drop-cons}
use Rattle.laws.specs.Places.{count}
use Rattle.laws.specs.ListOf.{row}
use Rattle.trace.specs.Bounds.{THREADS, ADDRESSES, VALUES}
use Rattle.trace.specs.WellFormed.{bounded}
use Rattle.trace.specs.FormFacts.{Bounded}
use Rattle.trace.specs.declared.Op.{Op}
use Rattle.trace.specs.declared.Op.TheVariants as op
use Rattle.trace.proofs.WellFormed.{bounded-iff}
use Rattle.reader.specs.Bounds.{LINE}
use Rattle.text.specs.Bounds.{FEED}
use Rattle.text.specs.Number.{decimal, digits, is_number}
use Rattle.text.specs.Template.{Hit, hit, miss, fill, found}
use Rattle.reader.specs.declared.Init.{Init}
use Rattle.reader.specs.LineForms.{store_form, load_form, swap_form, fence_form, render, or_else, store_of, load_of, swap_of, fence_of, form_of, raw_of, render_op, init_form, render_init, init, init_hit, init_of}
use Rattle.reader.specs.Answer.{op_of}
use Rattle.reader.specs.declared.Raw.{Raw}
use Rattle.reader.specs.declared.Raw.TheVariants.{Load, Store, Swap, Fence}
use Rattle.reader.proofs.Chosen.{no-thread}
use Rattle.text.proofs.Decimal.{decimal-length}
use Rattle.text.proofs.Template.{holes, nothing, found-fill, found-same, found-apart, fill-count, fill-length}

pub form-render : (r : Raw) → form_of (render r) ≡ Some r
unfolding form_of render
form-render (Store t a w) = rw (found-same store_form (t ∷ a ∷ w ∷ []) refl refl)
form-render (Load t a r) = rw (found-apart store_form load_form (t ∷ a ∷ r ∷ []) refl refl, found-same load_form (t ∷ a ∷ r ∷ []) refl refl)
form-render (Swap t a r b w) =
    let ns : List ℕ = t ∷ a ∷ r ∷ b ∷ w ∷ [] in
    rw (found-apart store_form swap_form ns refl refl, found-apart load_form swap_form ns refl refl, found-same swap_form ns refl refl)
form-render (Fence t) =
    rw (found-apart store_form fence_form (t ∷ []) refl refl, found-apart load_form fence_form (t ∷ []) refl refl, found-apart swap_form fence_form (t ∷ []) refl refl, found-same fence_form (t ∷ []) refl refl)

-- a list is what stands at its places
listed : (k i : ℕ) (ns : List ℕ) → length (drop i ns) ≡ k → row (λ j. get_or ns j 0) i k ≡ drop i ns
unfolding row
listed zero i ns e = sym (nothing (drop i ns) e)
listed (suc k) i ns e =
    let h = length-drop i ns in
    let q = drop-cons ns i 0 (omega arith) in
    ap (λ ms. get_or ns i 0 ∷ ms) (listed k (suc i) ns (suc_inj (sym (ap length q) ∙ e))) ∙ sym q

-- one form's part: the numbers that a line is found with are those of the record made of them
one_form : (ts : List ℕ) (make : List ℕ → Raw) (other : Option Raw) (line : List ℕ) (r : Raw) → ((ns : List ℕ) → length ns ≡ holes ts → render (make ns) ≡ fill ts ns)
    → (other ≡ Some r → line ≡ render r) → or_else (found ts line) make other ≡ Some r → line ≡ render r
one_form ts make other line r made else = go (found ts line) refl
  where
    go : (h : Hit) → found ts line ≡ h → or_else h make other ≡ Some r → line ≡ render r
    go (hit ns) q e =
        let f = found-fill ts line ns q in
        let s : make ns ≡ r = cc in
        f.0 ∙ sym (made ns f.1) ∙ ap render s
    go miss q e = else e

pub form-only : (line : List ℕ) (r : Raw) → form_of line ≡ Some r → line ≡ render r
unfolding form_of render row
form-only line r =
    one_form store_form store_of _ line r (λ ns l. ap (fill store_form) (listed 3 0 ns l))
    (one_form load_form load_of _ line r (λ ns l. ap (fill load_form) (listed 3 0 ns l))
    (one_form swap_form swap_of _ line r (λ ns l. ap (fill swap_form) (listed 5 0 ns l))
    (one_form fence_form fence_of None line r (λ ns l. ap (fill fence_form) (listed 1 0 ns l))
    (λ e. let z : ◌≡◌ {A = ℕ} 0 1 = cc in absurd (omega arith)))))

pub form-exactly : (line : List ℕ) (r : Raw) → (form_of line ≡ Some r) ↔ (line ≡ render r)
form-exactly line r = (form-only line r, λ e. rw e (form-render r))

pub no-form : (line : List ℕ) → (form_of line ≡ None) ↔ ((r : Raw) → line ≡ render r → ⊥)
no-form line = (λ e r q. let f = (form-exactly line r).1 q in let z : ◌≡◌ {A = ℕ} 0 1 = cc in omega arith, λ h. go h (form_of line) refl)
  where
    go : ((r : Raw) → line ≡ render r → ⊥) → (f : Option Raw) → form_of line ≡ f → f ≡ None
    go h (Some r) e = absurd (h r (form-only line r e))
    go h None e = refl

pub render-one : (r s : Raw) → render r ≡ render s → r ≡ s
render-one r s e = let f = form-render r in let g = (form-exactly (render r) s).1 e in (cc)

-- ---- init lines
pub init-only : (line : List ℕ) (a v : ℕ) → init_of line ≡ Some (init a v) → line ≡ render_init a v
unfolding init_of render_init row
init-only line a v = go (found init_form line) refl
  where
    go : (h : Hit) → found init_form line ≡ h → init_hit h ≡ Some (init a v) → line ≡ fill init_form (a ∷ v ∷ [])
    go (hit ns) q e =
        let f = found-fill init_form line ns q in
        let same : init (get_or ns 0 0) (get_or ns 1 0) ≡ init a v = cc in
        let p : get_or ns 0 0 ≡ a = ap (λ (i : Init). i.addr) same in
        let r : get_or ns 1 0 ≡ v = ap (λ (i : Init). i.value) same in
        f.0 ∙ ap (fill init_form) (sym (listed 2 0 ns f.1) ∙ rw (p, r) refl)
    go miss q e = let z : ◌≡◌ {A = ℕ} 0 1 = cc in absurd (omega arith)

pub init-found : (a v : ℕ) → init_of (render_init a v) ≡ Some (init a v)
unfolding init_of render_init
init-found a v = rw (found-same init_form (a ∷ v ∷ []) refl refl)

pub init-one : (a v b w : ℕ) → render_init a v ≡ render_init b w → (a ≡ b) × (v ≡ w)
init-one a v b w e =
    let q : Some (init a v) ≡ Some (init b w) = sym (init-found a v) ∙ ap init_of e ∙ init-found b w in
    let same : init a v ≡ init b w = cc in
    (ap (λ (i : Init). i.addr) same, ap (λ (i : Init). i.value) same)

pub init-none : (line : List ℕ) → init_of line ≡ None → (a v : ℕ) → line ≡ render_init a v → ⊥
init-none line e a v q = let f = init-found a v in let g : init_of (render_init a v) ≡ None = subst (λ (l : List ℕ). init_of l ≡ None) q e in let z : ◌≡◌ {A = ℕ} 0 1 = cc in omega arith

-- a record's line begins with a digit
pub no-init : (r : Raw) (a v : ℕ) → render r ≡ render_init a v → ⊥
unfolding render_init digits is_number fill
no-init r a v e =
    let q : Some r ≡ None = sym (form-render r) ∙ ap form_of e ∙ no-thread (render_init a v) refl in
    let z : ◌≡◌ {A = ℕ} 0 1 = cc in
    omega arith

pub op-raw : (o : Op) → op_of (raw_of o) ≡ o
op-raw (op.Load t a r) = refl
op-raw (op.Store t a w) = refl
op-raw (op.Swap t a r w) = refl
op-raw (op.Fence t) = refl

pub render-op-one : (o p : Op) → render_op o ≡ render_op p → o ≡ p
render-op-one o p e = sym (op-raw o) ∙ ap op_of (render-one (raw_of o) (raw_of p) e) ∙ op-raw p

pub render-feed : (r : Raw) → count FEED (render r) ≡ 0
unfolding render count
render-feed (Store t a w) = omega (arith, fill-count FEED refl store_form (t ∷ a ∷ w ∷ []))
render-feed (Load t a r) = omega (arith, fill-count FEED refl load_form (t ∷ a ∷ r ∷ []))
render-feed (Swap t a r b w) = omega (arith, fill-count FEED refl swap_form (t ∷ a ∷ r ∷ b ∷ w ∷ []))
render-feed (Fence t) = omega (arith, fill-count FEED refl fence_form (t ∷ []))

pub init-feed : (a v : ℕ) → count FEED (render_init a v) ≡ 0
unfolding render_init count
init-feed a v = omega (arith, fill-count FEED refl init_form (a ∷ v ∷ []))

-- ---- length

-- the longest line of a record in bounds: a swap of one digit, two addresses of two and two values of five
abbrev pub LONGEST : ℕ
LONGEST = 37

module _ {n : ℕ} where
  thread-short : n < THREADS → length (decimal n) ≤ 1
  thread-short h = decimal-length 1 n (omega arith) (omega arith)

  address-short : n < ADDRESSES → length (decimal n) ≤ 2
  address-short h = decimal-length 2 n (omega arith) (omega arith)

  value-short : n < VALUES → length (decimal n) ≤ 5
  value-short h = decimal-length 5 n (omega arith) (omega arith)

pub render-long : (o : Op) → Bounded o → length (render_op o) ≤ LONGEST
unfolding render
render-long (op.Load t a r) b =
    omega (arith, fill-length load_form (t ∷ a ∷ r ∷ []) refl, thread-short b.thread-below, address-short b.address_below, value-short b.read_below)
render-long (op.Store t a w) b =
    omega (arith, fill-length store_form (t ∷ a ∷ w ∷ []) refl, thread-short b.thread-below, address-short b.address_below, value-short b.written_below)
render-long (op.Swap t a r w) b =
    omega (arith, fill-length swap_form (t ∷ a ∷ r ∷ a ∷ w ∷ []) refl, thread-short b.thread-below, address-short b.address_below, value-short b.read_below, value-short b.written_below)
render-long (op.Fence t) b = omega (arith, fill-length fence_form (t ∷ []) refl, thread-short b.thread-below)

-- the longest init line in bounds
abbrev pub LONGEST-INIT : ℕ
LONGEST-INIT = 20

pub init-long : (a v : ℕ) → a < ADDRESSES → v < VALUES → length (render_init a v) ≤ LONGEST-INIT
unfolding render_init
init-long a v h l = omega (arith, fill-length init_form (a ∷ v ∷ []) refl, address-short h, value-short l)

pub render-short : (o : Op) → So (bounded o) → length (render_op o) ≤ LINE
render-short o h = omega (arith, render-long o ((bounded-iff o).0 h))
