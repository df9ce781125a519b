-- Init lines as a list: what they give, and how many there can be.
--
--   Low is                      == each value is in bounds
--   start_all s is              == what stands above, with these init lines more
--   Open given is               == none of them is of an address that has its init line already
--   without-first, first-low    == the value of an address without an init line; values are as low as the first values
--   first-start, start-records, start-len == the trace that init lines leave
--   inits-few                   == there are no more than addresses
--   took-inits                  == a text that begins with such init lines takes them
--   without-low, apart_from, first-from == the first values other than 0, addresses rising, are such init lines
use mathlib.Core.Path.{◌≡◌, refl, sym, ap, subst, ◌∙◌}
use mathlib.Core.Logic.{inl, inr}
use mathlib.Core.Bool.{Bool, true, false, cond, So, false≢true}
use mathlib.Core.List.{List, [], ◌∷◌, ◌++◌, append_assoc}
use Prim.{Unit, tt}
use Prim.Native.Nat.{ℕ, zero, suc, ◌+◌, ◌*◌, ◌≤◌, ◌<◌}
use native.Mathlib.Omega.{arith}
use lib.Dec.{eqb}
use lib.ListN.{length, get_or, set, length-set, length-append}
use lib.Seq.{get_or-set_other}
use borrow.Author.Tests.{eqb-true, eq-eqb, ne_eqb}
use Rattle.laws.proofs.Tests.{test, eq?}
use Rattle.trace.specs.Bounds.{ADDRESSES, VALUES}
use Rattle.trace.specs.Trace.{started, first}
use Rattle.trace.specs.declared.Trace.{Trace}
use Rattle.trace.proofs.Places.{started-first, started-other}
use Rattle.text.specs.Bounds.{FEED}
use Rattle.text.specs.Lines.{Line, lines}
use Rattle.reader.specs.LineForms.{render_init}
use Rattle.reader.specs.Cases.{Above, with_init, Took, begin}
use Rattle.reader.specs.TextOf.{Begin, render_inits, first_in, Without, Apart, inits_from}
use Rattle.reader.proofs.Rendering.{init-feed, LONGEST-INIT, init-long}
use Rattle.reader.proofs.Lined.{lines-line}
use Rattle.reader.proofs.Begins.{Good}
use Rattle.reader.proofs.Cases.{good-free}

abbrev pub Low : List Begin → Type 0
Low [] = Unit {0}
Low (i ∷ is) = (i.value < VALUES) × Low is

abbrev pub start_all : Above → List Begin → Above
start_all s [] = s
start_all s (i ∷ is) = start_all (with_init s i.address i.value) is

abbrev pub Open : List Bool → List Begin → Type 0
Open given is = (a : ℕ) → So (get_or given a false) → Without is a

-- ---- the value of an address, where d is what it has without these
abbrev pub first_or : List Begin → ℕ → ℕ → ℕ
first_or [] d a = d
first_or (i ∷ is) d a = cond (eqb a i.address) i.value (first_or is d a)

pub first-or : (is : List Begin) (a : ℕ) → first_or is 0 a ≡ first_in is a
unfolding first_in
first-or [] a = refl
first-or (i ∷ is) a = rw (first-or is a) refl

pub without-first : (is : List Begin) (d a : ℕ) → Without is a → first_or is d a ≡ d
without-first [] d a w = refl
without-first (i ∷ is) d a w = rw (ne_eqb a i.address w.0) (without-first is d a w.1)

pub first-low : (is : List Begin) → Apart is → ((a : ℕ) → a < ADDRESSES → first_or is 0 a < VALUES) → Low is
first-low [] p h = tt
first-low (i ∷ is) p h = (
  let q = h i.address p.0 in rw (eq-eqb i.address i.address refl) at q,
  first-low is p.2 (λ a l. elim (eq? a i.address) [
    | inl e ↦ rw (e, without-first is 0 i.address p.1) (omega arith)
    | inr d ↦ let q = h a l in rw (ne_eqb a i.address d) at q
  ]),
)

started-all : (s : Above) (i : Begin) → length (started s.trace i.address i.value).firsts ≡ length s.trace.firsts
unfolding started
started-all s i = length-set s.trace.firsts i.address i.value

pub first-start : (is : List Begin) (s : Above) → Apart is → length s.trace.firsts ≡ ADDRESSES → (a : ℕ) → first (start_all s is).trace a ≡ first_or is (first s.trace a) a
first-start [] s p full a = refl
first-start (i ∷ is) s p full a =
    first-start is (with_init s i.address i.value) p.2 (started-all s i ∙ full) a ∙ elim (eq? a i.address) [
      | inl e ↦ rw (eq-eqb a i.address e) (without-first is (first (started s.trace i.address i.value) a) a (subst (Without is) (sym e) p.1) ∙ ap (first (started s.trace i.address i.value)) e ∙ started-first s.trace i.address i.value full p.0)
      | inr d ↦ rw (ne_eqb a i.address d, started-other s.trace i.address i.value a d) refl
    ]

pub start-firsts : (is : List Begin) (s : Above) → length (start_all s is).trace.firsts ≡ length s.trace.firsts
start-firsts [] s = refl
start-firsts (i ∷ is) s = start-firsts is (with_init s i.address i.value) ∙ started-all s i

pub start-records : (is : List Begin) (s : Above) → (start_all s is).trace.records ≡ s.trace.records
unfolding started
start-records [] s = refl
start-records (i ∷ is) s = start-records is (with_init s i.address i.value)

pub start-len : (is : List Begin) (s : Above) → (start_all s is).trace.len ≡ s.trace.len
unfolding started
start-len [] s = refl
start-len (i ∷ is) s = start-len is (with_init s i.address i.value)

-- ---- how many
flags : List Bool → ℕ
flags [] = 0
flags (true ∷ bs) = suc (flags bs)
flags (false ∷ bs) = flags bs

flags-most : (bs : List Bool) → flags bs ≤ length bs
unfolding flags
flags-most [] = omega arith
flags-most (true ∷ bs) = omega (arith, flags-most bs)
flags-most (false ∷ bs) = omega (arith, flags-most bs)

flags-set : (bs : List Bool) (a : ℕ) → a < length bs → get_or bs a false ≡ false → flags (set bs a true) ≡ suc (flags bs)
unfolding flags
flags-set [] a h e = absurd (omega arith)
flags-set (true ∷ bs) zero h e = absurd (false≢true (sym e))
flags-set (false ∷ bs) zero h e = refl
flags-set (true ∷ bs) (suc a) h e = ap suc (flags-set bs a (omega arith) e)
flags-set (false ∷ bs) (suc a) h e = flags-set bs a (omega arith) e

module _ (given : List Bool) (full : length given ≡ ADDRESSES) (i : Begin) (is : List Begin) (p : Apart (i ∷ is)) (o : Open given (i ∷ is)) where
  pub not_yet : get_or given i.address false ≡ false
  not_yet = elim (test (get_or given i.address false)) [ inl h ↦ absurd ((o i.address h).0 refl) | inr h ↦ h ]

  pub open-on : Open (set given i.address true) is
  open-on a h = elim (eq? a i.address) [
    | inl e ↦ rw e p.1
    | inr d ↦ (o a (sym (get_or-set_other given i.address a true false d) ∙ h)).1
  ]

  pub full-on : length (set given i.address true) ≡ ADDRESSES
  full-on = length-set given i.address true ∙ full

few : (is : List Begin) (given : List Bool) → length given ≡ ADDRESSES → Apart is → Open given is → length is + flags given ≤ ADDRESSES
few [] given full p o = omega (arith, flags-most given)
few (i ∷ is) given full p o =
    omega (arith, few is (set given i.address true) (full-on given full i is p o) p.2 (open-on given full i is p o), flags-set given i.address (omega (arith, p.0)) (not_yet given full i is p o))

pub inits-few : (is : List Begin) (given : List Bool) → length given ≡ ADDRESSES → Apart is → Open given is → length is ≤ ADDRESSES
inits-few is given full p o = omega (arith, few is given full p o)

pub inits-length : (is : List Begin) → Apart is → Low is → length (render_inits is) ≤ length is * suc LONGEST-INIT
unfolding render_inits
inits-length [] p w = omega arith
inits-length (i ∷ is) p w =
    rw (length-append (render_init i.address i.value) (FEED ∷ render_inits is)) (omega (arith, init-long i.address i.value p.0 w.0, inits-length is p.2 w.1))

-- ---- a text that begins with them
pub begun-len : (s : Above) (a v : ℕ) → (with_init s a v).trace.len ≡ s.trace.len
unfolding started
begun-len s a v = refl

abbrev line_of : Begin → Line
line_of i = record { bytes = render_init i.address i.value; ended = true }

good-line : (given : List Bool) (i : Begin) → i.address < ADDRESSES → i.value < VALUES → get_or given i.address false ≡ false → Good given (line_of i) i.address i.value
good-line given i h l e = record { text = refl; short = omega (arith, init-long i.address i.value h l); whole = refl; address = h; value = l; once = e }

pub took-inits : (is : List Begin) (s u : Above) (rest : List ℕ) → s.trace.len ≡ 0 → length s.given ≡ ADDRESSES → Apart is → Low is → Open s.given is → Took (start_all s is) (lines rest) u → Took s (lines (render_inits is ++ rest)) u
unfolding render_inits
took-inits [] s u rest n full p w o k = k
took-inits (i ∷ is) s u rest n full p w o k =
    let g = good-line s.given i p.0 w.0 (not_yet s.given full i is p o) in
    rw (append_assoc (render_init i.address i.value) (FEED ∷ render_inits is) rest, lines-line (render_init i.address i.value) (render_inits is ++ rest) (init-feed i.address i.value))
    (begin i.address i.value (good-free s (line_of i) i.address i.value g n, refl)
    (took-inits is (with_init s i.address i.value) u rest (begun-len s i.address i.value ∙ n) (full-on s.given full i is p o) p.2 w.1 (open-on s.given full i is p o) k))

-- ---- the values other than 0, addresses rising
module _ (t : Trace) where
  pub without-low : (k b a : ℕ) → a < b → Without (inits_from t b k) a
  unfolding inits_from
  without-low zero b a h = tt
  without-low (suc k) b a h = elim (test (eqb (first t b) 0)) [
    | inl e ↦ rw e (without-low k (suc b) a (omega arith))
    | inr e ↦ rw e (λ q. omega arith, without-low k (suc b) a (omega arith))
  ]

  pub apart_from : (k b : ℕ) → b + k ≤ ADDRESSES → Apart (inits_from t b k)
  unfolding inits_from
  apart_from zero b h = tt
  apart_from (suc k) b h = elim (test (eqb (first t b) 0)) [
    | inl e ↦ rw e (apart_from k (suc b) (omega arith))
    | inr e ↦ rw e (omega arith, without-low k (suc b) b (omega arith), apart_from k (suc b) (omega arith))
  ]

  pub first-from : (k b a : ℕ) → b ≤ a → a < b + k → first_or (inits_from t b k) 0 a ≡ first t a
  unfolding inits_from
  first-from zero b a h l = absurd (omega arith)
  first-from (suc k) b a h l = elim (test (eqb (first t b) 0)) [
    | inl e ↦ rw e (elim (eq? a b) [
      | inl q ↦ without-first (inits_from t (suc b) k) 0 a (without-low k (suc b) a (omega arith)) ∙ sym (ap (first t) q ∙ eqb-true (first t b) 0 e)
      | inr d ↦ first-from k (suc b) a (omega arith) (omega arith)
    ])
    | inr e ↦ rw e (elim (eq? a b) [
      | inl q ↦ rw (eq-eqb a b q) (ap (first t) (sym q))
      | inr d ↦ rw (ne_eqb a b d) (first-from k (suc b) a (omega arith) (omega arith))
    ])
  ]
