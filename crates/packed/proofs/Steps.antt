-- One entry more, as the code meets it: at a place of the whole file, with so many read before it.
--
--   first-bad, first_past, first_next, first-over == a first value that is none; whose address is past its bound; that is put down; no more of them
--   record-taken, record-back, record-over        == a record that is taken; that is turned back; no more of them
use mathlib.Core.Path.{◌≡◌, refl, sym, ap, ap₂, ◌∙◌}
use mathlib.Core.Bool.{true, false, cond, ◌||◌}
use mathlib.Core.List.{List}
use Prim.Native.Nat.{ℕ, suc, ◌+◌, ◌*◌, ◌-◌, ◌<◌, ◌≤◌}
use native.Mathlib.Omega.{arith}
use lib.Dec.{eqb, ltb, leb}
use lib.ListN.{get_or, set, drop}
use lib.Seq.{drop-drop, get_or-drop}
use borrow.Author.Tests.{le-leb, lt-leb}
use Rattle.std.specs.Prelude.{Result, Ok, Err}
use Rattle.trace.specs.Bounds.{ADDRESSES}
use Rattle.trace.specs.Trace.{pushed}
use Rattle.trace.specs.declared.Op.{Op}
use Rattle.trace.specs.declared.Trace.{Trace}
use Rattle.packed.specs.Layout.{HEAD, FIRST, RECORD, two_in}
use Rattle.packed.specs.FileRead.{turned_bytes, begun_file, good, back, read_firsts, read_records}
use Rattle.packed.specs.declared.Reason.{Reason}
use Rattle.packed.specs.declared.Reason.TheVariants.{PastBound, NoEntry}
use Rattle.packed.specs.declared.Reading.{Reading}
use Rattle.packed.proofs.Codec.{two-drop}

-- of as many as are left, one
left : (c i : ℕ) → i < c → c - i ≡ suc (c - (i + 1))
left c i h = omega arith

-- what one first value comes to
abbrev step : ℕ → ℕ → List ℕ → ℕ → ℕ → List ℕ → Reading
step c low vs a v rest =
    cond (eqb v 0 || ltb a low) (back NoEntry 0)
    (cond (leb ADDRESSES a) (back PastBound 0)
    (read_firsts c (a + 1) (set vs a v) rest))

module _ (c i low : ℕ) (vs b : List ℕ) where
  module _ (h : i < c) (v : ℕ) (e : v ≡ two_in b (HEAD + FIRST * i + 1)) where
    -- its address
    abbrev a : ℕ
    a = get_or b (HEAD + FIRST * i) 0

    -- what follows it
    abbrev rest : List ℕ
    rest = drop (HEAD + FIRST * (i + 1)) b

    first_step : read_firsts (c - i) low vs (drop (HEAD + FIRST * i) b) ≡ step (c - (i + 1)) low vs a v rest
    unfolding read_firsts
    first_step =
        let at : HEAD + FIRST * i + 0 ≡ HEAD + FIRST * i = omega arith in
        let on : HEAD + FIRST * i + FIRST ≡ HEAD + FIRST * (i + 1) = omega arith in
        let p : get_or (drop (HEAD + FIRST * i) b) 0 0 ≡ a = get_or-drop (HEAD + FIRST * i) b 0 0 ∙ ap (λ (k : ℕ). get_or b k 0) at in
        let q : two_in (drop (HEAD + FIRST * i) b) 1 ≡ v = sym (two-drop b (HEAD + FIRST * i) 1) ∙ sym e in
        let r : drop FIRST (drop (HEAD + FIRST * i) b) ≡ rest = drop-drop FIRST (HEAD + FIRST * i) b ∙ ap (λ (k : ℕ). drop k b) on in
        ap (λ (k : ℕ). read_firsts k low vs (drop (HEAD + FIRST * i) b)) (left c i h)
        ∙ ap (λ (x : ℕ). step (c - (i + 1)) low vs x (two_in (drop (HEAD + FIRST * i) b) 1) (drop FIRST (drop (HEAD + FIRST * i) b))) p
        ∙ ap₂ (λ (x : ℕ) (y : List ℕ). step (c - (i + 1)) low vs a x y) q r

    pub first-bad : (eqb v 0 || ltb a low) ≡ true → read_firsts (c - i) low vs (drop (HEAD + FIRST * i) b) ≡ back NoEntry 0
    first-bad t = first_step ∙ (rw t refl)

    module _ (t : (eqb v 0 || ltb a low) ≡ false) where
      pub first_past : ADDRESSES ≤ a → read_firsts (c - i) low vs (drop (HEAD + FIRST * i) b) ≡ back PastBound 0
      first_past g = first_step ∙ (rw (t, le-leb ADDRESSES a g) refl)

      pub first_next : a < ADDRESSES → read_firsts (c - i) low vs (drop (HEAD + FIRST * i) b) ≡ read_firsts (c - (i + 1)) (a + 1) (set vs a v) rest
      first_next g = first_step ∙ (rw (t, lt-leb ADDRESSES a g) refl)

  pub first-over : c ≤ i → read_firsts (c - i) low vs (drop (HEAD + FIRST * i) b) ≡ good (begun_file vs)
  unfolding read_firsts
  first-over h = let z : c - i ≡ 0 = omega arith in ap (λ (k : ℕ). read_firsts k low vs (drop (HEAD + FIRST * i) b)) z

module _ (t : Trace) (b : List ℕ) (from n i : ℕ) where
  module _ (h : i < n) where
    -- one of them, and what is left behind it
    one : read_records t (drop (from + RECORD * i) b) (n - i) ≡ read_records t (drop (from + RECORD * i) b) (suc (n - (i + 1)))
    one = ap (read_records t (drop (from + RECORD * i) b)) (left n i h)

    pub record-taken : (o : Op) → turned_bytes t (drop (from + RECORD * i) b) ≡ Ok o
        → read_records t (drop (from + RECORD * i) b) (n - i) ≡ read_records (pushed t o) (drop (from + RECORD * (i + 1)) b) (n - (i + 1))
    unfolding read_records
    record-taken o q =
        let x = drop (from + RECORD * i) b in
        let on : from + RECORD * i + RECORD ≡ from + RECORD * (i + 1) = omega arith in
        one
        ∙ ap (λ (u : Result Op Reason). elim u [ Ok o ↦ read_records (pushed t o) (drop RECORD x) (n - (i + 1)) | Err reason ↦ back reason (t.len + 1) ]) q
        ∙ ap (λ (y : List ℕ). read_records (pushed t o) y (n - (i + 1))) (drop-drop RECORD (from + RECORD * i) b ∙ ap (λ (k : ℕ). drop k b) on)

    pub record-back : (reason : Reason) → turned_bytes t (drop (from + RECORD * i) b) ≡ Err reason → read_records t (drop (from + RECORD * i) b) (n - i) ≡ back reason (t.len + 1)
    unfolding read_records
    record-back reason q =
        let x = drop (from + RECORD * i) b in
        one ∙ ap (λ (u : Result Op Reason). elim u [ Ok o ↦ read_records (pushed t o) (drop RECORD x) (n - (i + 1)) | Err reason ↦ back reason (t.len + 1) ]) q

  pub record-over : n ≤ i → read_records t (drop (from + RECORD * i) b) (n - i) ≡ good t
  unfolding read_records
  record-over h = let z : n - i ≡ 0 = omega arith in ap (read_records t (drop (from + RECORD * i) b)) z
