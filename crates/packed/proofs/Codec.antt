-- Numbers in two bytes, and records in eight.
--
--   Bytes                == each number of a list is a byte
--   two_back, lower, upper == a number is what its two bytes say, and they are the only ones
--   two-drop, entry-drop == what stands at a place is what the rest from there begins with
--   eight                == as many bytes as a record has, taken off the front
--   op-load, op-store, op-swap, op-fence, op-none == what six fields are, with the tests that lead to it
--   in-record, record-in == a record is read from its own bytes, and only from those
use mathlib.Core.Path.{◌≡◌, refl, sym, ap, ap₂, ◌∙◌, subst}
use mathlib.Core.Bool.{Bool, true, false, cond, ◌&&◌}
use mathlib.Core.List.{List, [], ◌∷◌, ◌++◌}
use Prim.Native.Nat.{ℕ, ◌+◌, ◌*◌, ◌/◌, ◌%◌, ◌<◌, ◌≤◌}
use native.Mathlib.Omega.{arith}
use lib.Dec.{eqb}
use lib.ListN.{length, get_or, drop}
use lib.Seq.{get_or-drop}
use Rattle.std.specs.Prelude.{Some, None}
use Rattle.laws.proofs.Tests.{and-iff, so-eq}
use Rattle.trace.specs.Op.{thread, address, read, written}
use Rattle.trace.specs.declared.Op.{Op}
use Rattle.trace.specs.declared.Op.TheVariants.{Load, Store, Swap, Fence}
use Rattle.packed.specs.Layout.{BYTE, RECORD, two_in, kind_byte, record_of}
use Rattle.packed.specs.Entry.{op_in, entry_in}

-- past the end stands 0, which is one too
abbrev pub Bytes : List ℕ → Type 0
Bytes b = (i : ℕ) → get_or b i 0 < BYTE

pub bytes_drop : (k : ℕ) (b : List ℕ) → Bytes b → Bytes (drop k b)
bytes_drop k b h i = rw (get_or-drop k b i 0) (h (k + i))

pub two_back : (n : ℕ) → n % BYTE + BYTE * (n / BYTE) ≡ n
two_back n = omega arith

pub lower : (a b : ℕ) → a < BYTE → a ≡ (a + BYTE * b) % BYTE
lower a b h = omega arith

pub upper : (a b : ℕ) → a < BYTE → b ≡ (a + BYTE * b) / BYTE
upper a b h = omega arith

module _ (b : List ℕ) (at : ℕ) where
  place : (i : ℕ) → get_or b (at + i) 0 ≡ get_or (drop at b) i 0
  place i = sym (get_or-drop at b i 0)

  pub two-drop : (i : ℕ) → two_in b (at + i) ≡ two_in (drop at b) i
  two-drop i =
      let e : at + i + 1 ≡ at + (i + 1) = omega arith in
      ap₂ (λ (x y : ℕ). x + BYTE * y) (place i) (ap (λ (k : ℕ). get_or b k 0) e ∙ place (i + 1))

  pub entry-drop : (r w : ℕ) → r ≡ two_in b (at + 4) → w ≡ two_in b (at + 6)
      → op_in (get_or b at 0) (get_or b (at + 1) 0) (get_or b (at + 2) 0) (get_or b (at + 3) 0) r w ≡ entry_in (drop at b)
  entry-drop r w e f =
      let z : at ≡ at + 0 = omega arith in
      let p0 : get_or b at 0 ≡ get_or (drop at b) 0 0 = ap (λ (k : ℕ). get_or b k 0) z ∙ place 0 in
      let p1 = place 1 in
      let p2 = place 2 in
      let p3 = place 3 in
      let p4 : r ≡ two_in (drop at b) 4 = e ∙ two-drop 4 in
      let p6 : w ≡ two_in (drop at b) 6 = f ∙ two-drop 6 in
      cc

-- eight bytes off the front
pub eight : (b : List ℕ) → RECORD ≤ length b
    → b ≡ get_or b 0 0 ∷ get_or b 1 0 ∷ get_or b 2 0 ∷ get_or b 3 0 ∷ get_or b 4 0 ∷ get_or b 5 0 ∷ get_or b 6 0 ∷ get_or b 7 0 ∷ drop RECORD b
eight [] h = absurd (omega arith)
eight (a ∷ []) h = absurd (omega arith)
eight (a ∷ b ∷ []) h = absurd (omega arith)
eight (a ∷ b ∷ c ∷ []) h = absurd (omega arith)
eight (a ∷ b ∷ c ∷ d ∷ []) h = absurd (omega arith)
eight (a ∷ b ∷ c ∷ d ∷ e ∷ []) h = absurd (omega arith)
eight (a ∷ b ∷ c ∷ d ∷ e ∷ f ∷ []) h = absurd (omega arith)
eight (a ∷ b ∷ c ∷ d ∷ e ∷ f ∷ g ∷ []) h = absurd (omega arith)
eight (a ∷ b ∷ c ∷ d ∷ e ∷ f ∷ g ∷ i ∷ bs) h = refl

-- ---- the record of six fields, with the tests that lead to it
module _ (k t a z r w : ℕ) where
  pub op-load : (eqb k 0 && eqb z 0 && eqb w 0) ≡ true → Some (Load t a r) ≡ op_in k t a z r w
  unfolding op_in
  op-load e = rw e refl

  module _ (x : (eqb k 0 && eqb z 0 && eqb w 0) ≡ false) where
    pub op-store : (eqb k 1 && eqb z 0 && eqb r 0) ≡ true → Some (Store t a w) ≡ op_in k t a z r w
    unfolding op_in
    op-store e = rw (x, e) refl

    module _ (y : (eqb k 1 && eqb z 0 && eqb r 0) ≡ false) where
      pub op-swap : (eqb k 2 && eqb z 0) ≡ true → Some (Swap t a r w) ≡ op_in k t a z r w
      unfolding op_in
      op-swap e = rw (x, y, e) refl

      module _ (v : (eqb k 2 && eqb z 0) ≡ false) where
        pub op-fence : (eqb k 3 && eqb a 0 && eqb z 0 && eqb r 0 && eqb w 0) ≡ true → Some (Fence t) ≡ op_in k t a z r w
        unfolding op_in
        op-fence e = rw (x, y, v, e) refl

        pub op-none : (eqb k 3 && eqb a 0 && eqb z 0 && eqb r 0 && eqb w 0) ≡ false → None ≡ op_in k t a z r w
        unfolding op_in
        op-none e = rw (x, y, v, e) refl

in-fields : (o : Op) → op_in (kind_byte o) (thread o) (address o) 0 (read o) (written o) ≡ Some o
unfolding op_in
in-fields (Load t a r) = refl
in-fields (Store t a w) = refl
in-fields (Swap t a r w) = refl
in-fields (Fence t) = refl

pub in-record : (o : Op) (rest : List ℕ) → entry_in (record_of o ++ rest) ≡ Some o
in-record o rest = ap₂ (λ (r w : ℕ). op_in (kind_byte o) (thread o) (address o) 0 r w) (two_back (read o)) (two_back (written o)) ∙ in-fields o

-- a record's fields, one by one
record Fields (o : Op) (k t a z r w : ℕ) : Type 0 where
  is-kind : k ≡ kind_byte o
  is-thread : t ≡ thread o
  is_address : a ≡ address o
  is_zero : z ≡ 0
  is_read : r ≡ read o
  is-written : w ≡ written o

inj : {x y : Op} → Some x ≡ Some y → x ≡ y
inj e = cc

fields : (k t a z r w : ℕ) (o : Op) → op_in k t a z r w ≡ Some o → Fields o k t a z r w
unfolding op_in
fields k t a z r w o =
    go (eqb k 0 && eqb z 0 && eqb w 0) (eqb k 1 && eqb z 0 && eqb r 0) (eqb k 2 && eqb z 0) (eqb k 3 && eqb a 0 && eqb z 0 && eqb r 0 && eqb w 0) refl refl refl refl
  where
    go : (l s x f : Bool) → (eqb k 0 && eqb z 0 && eqb w 0) ≡ l → (eqb k 1 && eqb z 0 && eqb r 0) ≡ s → (eqb k 2 && eqb z 0) ≡ x → (eqb k 3 && eqb a 0 && eqb z 0 && eqb r 0 && eqb w 0) ≡ f
        → cond l (Some (Load t a r)) (cond s (Some (Store t a w)) (cond x (Some (Swap t a r w)) (cond f (Some (Fence t)) None))) ≡ Some o
        → Fields o k t a z r w
    go true s x f el es ex ef q =
        let p = (and-iff (and-iff so-eq so-eq) so-eq).0 el in
        subst (λ (o : Op). Fields o k t a z r w) (inj q) (record { is-kind = p.0.0; is-thread = refl; is_address = refl; is_zero = p.0.1; is_read = refl; is-written = p.1 })
    go false true x f el es ex ef q =
        let p = (and-iff (and-iff so-eq so-eq) so-eq).0 es in
        subst (λ (o : Op). Fields o k t a z r w) (inj q) (record { is-kind = p.0.0; is-thread = refl; is_address = refl; is_zero = p.0.1; is_read = p.1; is-written = refl })
    go false false true f el es ex ef q =
        let p = (and-iff so-eq so-eq).0 ex in
        subst (λ (o : Op). Fields o k t a z r w) (inj q) (record { is-kind = p.0; is-thread = refl; is_address = refl; is_zero = p.1; is_read = refl; is-written = refl })
    go false false false true el es ex ef q =
        let p = (and-iff (and-iff (and-iff (and-iff so-eq so-eq) so-eq) so-eq) so-eq).0 ef in
        subst (λ (o : Op). Fields o k t a z r w) (inj q) (record { is-kind = p.0.0.0.0; is-thread = refl; is_address = p.0.0.0.1; is_zero = p.0.0.1; is_read = p.0.1; is-written = p.1 })
    go false false false false el es ex ef q = let z : ◌≡◌ {A = ℕ} 0 1 = cc in absurd (omega arith)

pub record-in : (b : List ℕ) (o : Op) → Bytes b → RECORD ≤ length b → entry_in b ≡ Some o → b ≡ record_of o ++ drop RECORD b
record-in b o h long e =
    let f = fields (get_or b 0 0) (get_or b 1 0) (get_or b 2 0) (get_or b 3 0) (two_in b 4) (two_in b 6) o e in
    let e0 = f.is-kind in
    let e1 = f.is-thread in
    let e2 = f.is_address in
    let e3 = f.is_zero in
    let e4 : get_or b 4 0 ≡ read o % BYTE = lower _ (get_or b 5 0) (h 4) ∙ ap (λ (n : ℕ). n % BYTE) f.is_read in
    let e5 : get_or b 5 0 ≡ read o / BYTE = upper (get_or b 4 0) _ (h 4) ∙ ap (λ (n : ℕ). n / BYTE) f.is_read in
    let e6 : get_or b 6 0 ≡ written o % BYTE = lower _ (get_or b 7 0) (h 6) ∙ ap (λ (n : ℕ). n % BYTE) f.is-written in
    let e7 : get_or b 7 0 ≡ written o / BYTE = upper (get_or b 6 0) _ (h 6) ∙ ap (λ (n : ℕ). n / BYTE) f.is-written in
    eight b long ∙ cc
