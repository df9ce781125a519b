-- When a line gives a first value.
--
--   Good given l a v == the parts of it: the init line of a and v, short, ended, in bounds, of an address without one
--   begins-good, good-begins == `init_given` says so exactly then
--   begins-none == where it gives none, no line of that kind stands there
use mathlib.Core.Path.{◌≡◌, refl, ap, subst, ◌∙◌}
use mathlib.Core.Bool.{Bool, true, false, not, ◌&&◌, cond}
use mathlib.Core.List.{List}
use Prim.Native.Nat.{ℕ, ◌≤◌, ◌<◌}
use native.Mathlib.Omega.{arith}
use lib.Dec.{ltb}
use lib.ListN.{length, get_or}
use borrow.Author.Tests.{lt-ltb, le-ltb, ltb-false, not-true}
use Rattle.std.specs.Prelude.{Option, Some, None}
use Rattle.laws.proofs.Tests.{and-iff, same-iff, so-lt}
use Rattle.trace.specs.Bounds.{ADDRESSES, VALUES}
use Rattle.text.specs.Lines.{Line}
use Rattle.reader.specs.Bounds.{LINE}
use Rattle.reader.specs.LineForms.{render_init, init, init_of}
use Rattle.reader.specs.Answer.{beginning, init_given}
use Rattle.reader.specs.declared.Init.{Init}
use Rattle.reader.proofs.Rendering.{init-only, init-found}

pub record Good (given : List Bool) (l : Line) (a v : ℕ) : Type 0 where
  pub text : l.bytes ≡ render_init a v
  pub short : length l.bytes ≤ LINE
  pub whole : l.ended ≡ true
  pub address : a < ADDRESSES
  pub value : v < VALUES
  pub once : get_or given a false ≡ false

module _ (given : List Bool) (l : Line) where
  abbrev fits : ℕ → ℕ → Bool
  fits a v = ltb a ADDRESSES && ltb v VALUES && not (get_or given a false)

  pub begins-good : (a v : ℕ) → init_given given l ≡ Some (init a v) → Good given l a v
  unfolding init_given
  begins-good a v = go (ltb LINE (length l.bytes)) refl l.ended refl (init_of l.bytes) refl
    where
      last : (b w : ℕ) → l.bytes ≡ render_init b w → length l.bytes ≤ LINE → l.ended ≡ true → (c : Bool) → fits b w ≡ c → cond c (Some (init b w)) None ≡ Some (init a v) → Good given l a v
      last b w t s e true f k =
          let same : init b w ≡ init a v = cc in
          let p : b ≡ a = ap (λ (i : Init). i.addr) same in
          let q : w ≡ v = ap (λ (i : Init). i.value) same in
          let h = (and-iff (and-iff so-lt so-lt) same-iff).0 f in
          subst (λ a. Good given l a v) p (subst (Good given l b) q (record { text = t; short = s; whole = e; address = h.0.0; value = h.0.1; once = not-true (get_or given b false) h.1 }))
      last b w t s e false f k = let z : ◌≡◌ {A = ℕ} 0 1 = cc in absurd (omega arith)

      go : (p : Bool) → ltb LINE (length l.bytes) ≡ p → (e : Bool) → l.ended ≡ e → (i : Option Init) → init_of l.bytes ≡ i → cond p None (cond e (beginning given i) None) ≡ Some (init a v) → Good given l a v
      go true hp e he i hi k = let z : ◌≡◌ {A = ℕ} 0 1 = cc in absurd (omega arith)
      go false hp false he i hi k = let z : ◌≡◌ {A = ℕ} 0 1 = cc in absurd (omega arith)
      go false hp true he None hi k = let z : ◌≡◌ {A = ℕ} 0 1 = cc in absurd (omega arith)
      go false hp true he (Some i) hi k = last i.addr i.value (init-only l.bytes i.addr i.value hi) (ltb-false LINE (length l.bytes) hp) he (fits i.addr i.value) refl k

  pub good-begins : (a v : ℕ) → Good given l a v → init_given given l ≡ Some (init a v)
  unfolding init_given
  good-begins a v g =
      let i : init_of l.bytes ≡ Some (init a v) = ap init_of g.text ∙ init-found a v in
      rw (le-ltb LINE (length l.bytes) g.short, g.whole, i, lt-ltb a ADDRESSES g.address, lt-ltb v VALUES g.value, g.once) refl

  pub begins-none : init_given given l ≡ None → (a v : ℕ) → Good given l a v → ⊥
  begins-none e a v g = let q = good-begins a v g in let z : ◌≡◌ {A = ℕ} 0 1 = cc in omega arith
