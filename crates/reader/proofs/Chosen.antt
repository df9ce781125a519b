-- The form of a line is the first whose template gives it.
--
--   Makes make == a maker of raw records looks at its places only, one number after another
--   store-makes, load-makes, swap-makes, fence-makes == the makers of the four forms
--   fit-taken  == a template that gives the line behind its thread makes the record
--   fit-left   == one that does not leaves the line to the others
--   plain-first, swap-first, fence-first, none_first == the first byte behind the thread tells which form can be meant
--   thread-cut == the thread may be cut before the rest is looked at
--   colon-there, colon-none, colon-inside == a colon and a space at a place
--   init-taken, init-left == an init line is found, or it is none
--   no-thread, no-colon, with-thread == what the beginning of a line says of its form
use Rattle.std.specs.Prelude.{Option, Some, None, unwrap_or}
use mathlib.Core.Path.{◌≡◌, refl, sym, ap, ◌∙◌}
use mathlib.Core.Bool.{Bool, true, false, true≢false, ◌&&◌, and-false, cond}
use mathlib.Core.List.{List, [], ◌∷◌, map}
use Prim.Native.Nat.{ℕ, zero, suc, ◌+◌, ◌<◌, ◌≤◌}
use native.Mathlib.Decide.{dec_lt}
use lib.Dec.{eqb}
use borrow.Author.Tests.{ne_eqb}
use lib.Seq.{drop-drop}
use native.Mathlib.Omega.{arith}
use lib.ListN.{length, drop, get_or, replicate, get_or-map}
use Rattle.trace.specs.Bounds.{VALUES}
use Rattle.text.specs.Number.{digits, value, is_number, cut}
use Rattle.text.specs.Template.{HOLE, NUMBERS, Hit, hit, miss, also, begins, found, fit_from, fitted}
use Rattle.reader.specs.LineForms.{thread_then, store_rest, load_rest, swap_rest, sync, or_else, cut_raw, cut_form, store_of, load_of, swap_of, fence_of, form_of, init_form, init, init_hit, init_of, cut_init}
use Rattle.reader.specs.inner.AfterThread.{fence_else, swap_else, load_else, plain_of, exchange_of, sync_of, first_form, behind_of}
use Rattle.reader.specs.declared.Raw.{Raw}
use Rattle.text.proofs.Fits.{number_is, begins-at, begins-past}

unfoldable pub Makes : (List ℕ → Raw) → Type 0
Makes make = (ns ms : List ℕ) → ((i : ℕ) → i < suc NUMBERS → get_or ms i 0 ≡ cut (get_or ns i 0)) → make ms ≡ cut_raw (make ns)

pub store-makes : Makes store_of
unfolding Makes
store-makes ns ms h = rw (h 0 (omega arith), h 1 (omega arith), h 2 (omega arith))

pub load-makes : Makes load_of
unfolding Makes
load-makes ns ms h = rw (h 0 (omega arith), h 1 (omega arith), h 2 (omega arith))

pub swap-makes : Makes swap_of
unfolding Makes
swap-makes ns ms h = rw (h 0 (omega arith), h 1 (omega arith), h 2 (omega arith), h 3 (omega arith), h 4 (omega arith))

pub fence-makes : Makes fence_of
unfolding Makes
fence-makes ns ms h = rw (h 0 (omega arith))

module _ (ts rest : List ℕ) (make : List ℕ → Raw) (other : Option Raw) (thread : ℕ) where
  pub fit-taken : (places : List ℕ) → Makes make → thread ≤ VALUES → Some places ≡ fitted ts rest → Some (make (thread ∷ places)) ≡ cut_form (or_else (also thread (found ts rest)) make other)
  unfolding Makes fitted
  fit-taken places m h e = go (found ts rest) e
    where
      go : (f : Hit) → Some places ≡ fit_from 0 (replicate NUMBERS 0) f → Some (make (thread ∷ places)) ≡ cut_form (or_else (also thread f) make other)
      go (hit ns) q = ap Some (m (thread ∷ ns) (thread ∷ places) each)
        where
          each : (i : ℕ) → i < suc NUMBERS → get_or (thread ∷ places) i 0 ≡ cut (get_or (thread ∷ ns) i 0)
          each zero b = omega arith
          each (suc i) b = ap (λ (r : Option (List ℕ)). get_or (unwrap_or r []) i 0) q ∙ number_is ns i (omega arith)
      go miss q = let z : ◌≡◌ {A = ℕ} 0 1 = cc in absurd (omega arith)

  pub fit-left : None ≡ fitted ts rest → or_else (also thread (found ts rest)) make other ≡ other
  unfolding fitted
  fit-left e = go (found ts rest) e
    where
      go : (f : Hit) → None ≡ fit_from 0 (replicate NUMBERS 0) f → or_else (also thread f) make other ≡ other
      go (hit ns) q = let z : ◌≡◌ {A = ℕ} 0 1 = cc in absurd (omega arith)
      go miss q = refl

-- one form: the thread cut or not
one-cut : (make : List ℕ → Raw) → Makes make → (v : ℕ) (f : Hit) (o p : Option Raw) → cut_form o ≡ cut_form p → cut_form (or_else (also (cut v) f) make o) ≡ cut_form (or_else (also v f) make p)
unfolding Makes
one-cut make m v (hit ns) o p e =
    ap Some (sym (m (cut v ∷ ns) (map cut (v ∷ ns)) (λ i b. each i)) ∙ m (v ∷ ns) (map cut (v ∷ ns)) (λ i b. get_or-map cut (v ∷ ns) i 0))
  where
    each : (i : ℕ) → get_or (map cut (v ∷ ns)) i 0 ≡ cut (get_or (cut v ∷ ns) i 0)
    each zero = omega arith
    each (suc i) = get_or-map cut ns i 0
one-cut make m v miss o p e = e

pub thread-cut : (v : ℕ) (rest : List ℕ) → behind_of (cut v) rest ≡ behind_of v rest
thread-cut v rest =
    one-cut store_of store-makes v (found store_rest rest) (load_else (cut v) rest) (load_else v rest)
    (one-cut load_of load-makes v (found load_rest rest) (swap_else (cut v) rest) (swap_else v rest)
    (one-cut swap_of swap-makes v (found swap_rest rest) (fence_else (cut v) rest) (fence_else v rest)
    (one-cut fence_of fence-makes v (found sync rest) None None refl)))

-- a template gives nothing that begins with another byte than it
other_byte : (t : ℕ) (ts s : List ℕ) → (t ≡ HOLE → ⊥) → begins t s ≡ false → found (t ∷ ts) s ≡ miss
unfolding found
other_byte t ts s h e = rw (ne_eqb t HOLE h, e)

module _ (thread : ℕ) (s : List ℕ) (i : ℕ) where
  -- the byte at the place, if it is b, is no other
  not_there : (b t : ℕ) → i < length s → get_or s i 0 ≡ b → (b ≡ t → ⊥) → begins t (drop i s) ≡ false
  not_there b t h e d = begins-at t s i h ∙ ne_eqb (get_or s i 0) t (λ q. d (sym e ∙ q))

  pub plain-first : i < length s → get_or s i 0 ≡ 77 → plain_of thread (drop i s) ≡ first_form thread (drop i s)
  plain-first h e =
      rw (other_byte 123 _ (drop i s) (λ q. omega arith) (not_there 77 123 h e (λ q. omega arith)), other_byte 0x73 _ (drop i s) (λ q. omega arith) (not_there 77 0x73 h e (λ q. omega arith)))

  pub swap-first : i < length s → get_or s i 0 ≡ 123 → exchange_of thread (drop i s) ≡ first_form thread (drop i s)
  swap-first h e =
      let m : begins 77 (drop i s) ≡ false = not_there 123 77 h e (λ q. omega arith) in
      rw (other_byte 77 (91 ∷ 35 ∷ 93 ∷ 32 ∷ 58 ∷ 61 ∷ 32 ∷ 35 ∷ []) (drop i s) (λ q. omega arith) m, other_byte 77 (91 ∷ 35 ∷ 93 ∷ 32 ∷ 61 ∷ 61 ∷ 32 ∷ 35 ∷ []) (drop i s) (λ q. omega arith) m, other_byte 0x73 _ (drop i s) (λ q. omega arith) (not_there 123 0x73 h e (λ q. omega arith)))

  pub fence-first : begins 77 (drop i s) ≡ false → begins 123 (drop i s) ≡ false → sync_of thread (drop i s) ≡ first_form thread (drop i s)
  fence-first m b =
      rw (other_byte 77 (91 ∷ 35 ∷ 93 ∷ 32 ∷ 58 ∷ 61 ∷ 32 ∷ 35 ∷ []) (drop i s) (λ q. omega arith) m, other_byte 77 (91 ∷ 35 ∷ 93 ∷ 32 ∷ 61 ∷ 61 ∷ 32 ∷ 35 ∷ []) (drop i s) (λ q. omega arith) m, other_byte 123 _ (drop i s) (λ q. omega arith) b)

  pub none_first : length s ≤ i → None ≡ first_form thread (drop i s)
  none_first h =
      sym (ap (λ (f : Hit). or_else (also thread f) fence_of None) (other_byte 0x73 _ (drop i s) (λ q. omega arith) (begins-past 0x73 s i h)))
      ∙ fence-first (begins-past 77 s i h) (begins-past 123 s i h)

-- a colon and a space at a place
module _ (s : List ℕ) (i : ℕ) where
  pub colon-there : i + 1 < length s → (eqb (get_or s i 0) 58 && eqb (get_or s (i + 1) 0) 32) ≡ (begins 58 (drop i s) && begins 32 (drop 1 (drop i s)))
  colon-there h = rw (begins-at 58 s i (omega arith), drop-drop 1 i s, begins-at 32 s (i + 1) h)

  pub colon-none : length s ≤ i + 1 → false ≡ (begins 58 (drop i s) && begins 32 (drop 1 (drop i s)))
  colon-none h = rw (drop-drop 1 i s, begins-past 32 s (i + 1) h) (sym (and-false (begins 58 (drop i s))))

  pub colon-inside : (begins 58 (drop i s) && begins 32 (drop 1 (drop i s))) ≡ true → i + 1 < length s
  colon-inside e = elim (dec_lt (i + 1) (length s)) [ yes h ↦ h | no h ↦ absurd (true≢false (sym e ∙ sym (colon-none (omega arith)))) ]

-- the thread and its colon
module _ (line : List ℕ) where
  abbrev rest : List ℕ
  rest = drop (length (digits line)) line

  begun-found : (ts : List ℕ) → found (thread_then ts) line
      ≡ cond (is_number (digits line)) (also (value 0 (digits line)) (cond (begins 58 rest) (cond (begins 32 (drop 1 rest)) (found ts (drop 1 (drop 1 rest))) miss) miss)) miss
  unfolding found
  begun-found ts = refl

  pub no-thread : is_number (digits line) ≡ false → form_of line ≡ None
  unfolding form_of
  no-thread e = rw (none store_rest, none load_rest, none swap_rest, none sync)
    where
      none : (ts : List ℕ) → found (thread_then ts) line ≡ miss
      none ts = begun-found ts ∙ ap (λ (b : Bool). cond b (also (value 0 (digits line)) (cond (begins 58 rest) (cond (begins 32 (drop 1 rest)) (found ts (drop 1 (drop 1 rest))) miss) miss)) miss) e

  pub no-colon : (begins 58 rest && begins 32 (drop 1 rest)) ≡ false → form_of line ≡ None
  unfolding form_of
  no-colon e = rw (none store_rest, none load_rest, none swap_rest, none sync)
    where
      both : (a b c : Bool) (v : ℕ) (f : Hit) → (b && c) ≡ false → cond a (also v (cond b (cond c f miss) miss)) miss ≡ miss
      both true true true v f e = absurd (true≢false e)
      both true true false v f e = refl
      both true false c v f e = refl
      both false b c v f e = refl

      none : (ts : List ℕ) → found (thread_then ts) line ≡ miss
      none ts = begun-found ts ∙ both (is_number (digits line)) (begins 58 rest) (begins 32 (drop 1 rest)) _ _ e

  pub with-thread : is_number (digits line) ≡ true → (begins 58 rest && begins 32 (drop 1 rest)) ≡ true → form_of line ≡ first_form (value 0 (digits line)) (drop 1 (drop 1 rest))
  unfolding form_of
  with-thread n e = rw (some store_rest, some load_rest, some swap_rest, some sync)
    where
      both : (b c : Bool) (f : Hit) → (b && c) ≡ true → cond b (cond c f miss) miss ≡ f
      both true true f e = refl
      both true false f e = absurd (true≢false (sym e))
      both false c f e = absurd (true≢false (sym e))

      some : (ts : List ℕ) → found (thread_then ts) line ≡ also (value 0 (digits line)) (found ts (drop 1 (drop 1 rest)))
      some ts =
          begun-found ts
          ∙ ap (λ (b : Bool). cond b (also (value 0 (digits line)) (cond (begins 58 rest) (cond (begins 32 (drop 1 rest)) (found ts (drop 1 (drop 1 rest))) miss) miss)) miss) n
          ∙ ap (also (value 0 (digits line))) (both (begins 58 rest) (begins 32 (drop 1 rest)) _ e)

-- an init line
module _ (line : List ℕ) where
  pub init-taken : (places : List ℕ) → Some places ≡ fitted init_form line → Some (init (get_or places 0 0) (get_or places 1 0)) ≡ cut_init (init_of line)
  unfolding init_of fitted
  init-taken places e = go (found init_form line) e
    where
      go : (f : Hit) → Some places ≡ fit_from 0 (replicate NUMBERS 0) f → Some (init (get_or places 0 0) (get_or places 1 0)) ≡ cut_init (init_hit f)
      go (hit ns) q = rw (each 0 (omega arith), each 1 (omega arith)) refl
        where
          each : (i : ℕ) → i < NUMBERS → get_or places i 0 ≡ cut (get_or ns i 0)
          each i b = ap (λ (r : Option (List ℕ)). get_or (unwrap_or r []) i 0) q ∙ number_is ns i b
      go miss q = let z : ◌≡◌ {A = ℕ} 0 1 = cc in absurd (omega arith)

  pub init-left : None ≡ fitted init_form line → None ≡ cut_init (init_of line)
  unfolding init_of fitted
  init-left e = go (found init_form line) e
    where
      go : (f : Hit) → None ≡ fit_from 0 (replicate NUMBERS 0) f → None ≡ cut_init (init_hit f)
      go (hit ns) q = let z : ◌≡◌ {A = ℕ} 0 1 = cc in absurd (omega arith)
      go miss q = refl
