-- First values and their entries.
--
--   never       == a refused file is not read
--   firsts-read == the first values of a trace are read back, from any address on, behind those before it
--   Taken, firsts-only == first values are read from their own entries only
--   firsts-well == what is read of them is well formed
use mathlib.Core.Path.{◌≡◌, refl, sym, ap, ap₂, ◌∙◌, subst}
use mathlib.Core.Logic.{◌≢◌, inl, inr}
use mathlib.Core.Bool.{Bool, true, false, cond, So, ◌||◌, false≢true}
use mathlib.Core.List.{List, [], ◌∷◌, ◌++◌, append-nil, append_assoc}
use Prim.Native.Nat.{ℕ, zero, suc, ◌+◌, ◌*◌, ◌/◌, ◌%◌, ◌-◌, ◌<◌, ◌≤◌}
use native.Mathlib.Numerals.{add-one}
use native.Mathlib.Decide.{dec_lt}
use native.Mathlib.Omega.{arith}
use lib.Dec.{eqb, ltb, leb}
use lib.ListN.{length, get_or, set, drop, replicate, length-append, length-replicate, length-drop}
use lib.Seq.{append_snoc, set_at, drop-drop}
use borrow.Author.Tests.{lt-ltb, le-ltb, lt-leb, le-leb}
use Rattle.laws.proofs.Tests.{so-eq, off, or-iff, same-iff}
use Rattle.trace.specs.Bounds.{ADDRESSES}
use Rattle.trace.specs.Trace.{started}
use Rattle.trace.specs.WellFormed.{well_formed}
use Rattle.trace.specs.declared.Trace.{Trace}
use Rattle.trace.proofs.Growth.{started-well}
use Rattle.packed.specs.Layout.{BYTE, FIRST, two, two_in, first_entry, firsts_of, many}
use Rattle.packed.specs.FileRead.{begun_file, good, back, read_firsts}
use Rattle.packed.specs.declared.Reason.{Reason}
use Rattle.packed.specs.declared.Reason.TheVariants.{PastBound, NoEntry}
use Rattle.packed.specs.declared.Answer.{Answer}
use Rattle.packed.specs.declared.Answer.TheVariants.{Good, Refused}
use Rattle.packed.specs.declared.Reading.{Reading}
use Rattle.packed.proofs.Codec.{Bytes, bytes_drop, two_back, lower, upper}
use Rattle.packed.proofs.FileLaid.{first_some}

pub never : {reason : Reason} {line : ℕ} {t : Trace} → back reason line ≡ good t → ⊥
never {reason} {line} {t} q = let e : ◌≡◌ {A = Answer} (Refused reason line) Good = ap (λ (r : Reading). r.answer) q in let z : ◌≡◌ {A = ℕ} 0 1 = cc in omega arith

pub firsts-read : (vs pre rest : List ℕ) (a low : ℕ) → length pre ≡ a → a + length vs ≡ ADDRESSES → low ≤ a
    → read_firsts (many vs) low (pre ++ replicate (length vs) 0) (firsts_of a vs ++ rest) ≡ good (begun_file (pre ++ vs))
unfolding read_firsts first_entry firsts_of many
firsts-read [] pre rest a low l e h = refl
firsts-read (v ∷ vs) pre rest a low l e h = go (eqb v 0) refl (firsts-read vs (pre ++ (0 ∷ [])) rest (suc a) low) (firsts-read vs (pre ++ (v ∷ [])) rest (suc a) (suc a))
  where
    long : (x : ℕ) → length (pre ++ (x ∷ [])) ≡ suc a
    long x = omega (arith, length-append pre (x ∷ []), l)

    go : (b : Bool) → eqb v 0 ≡ b
        → (length (pre ++ (0 ∷ [])) ≡ suc a → suc a + length vs ≡ ADDRESSES → low ≤ suc a → read_firsts (many vs) low ((pre ++ (0 ∷ [])) ++ replicate (length vs) 0) (firsts_of (suc a) vs ++ rest) ≡ good (begun_file ((pre ++ (0 ∷ [])) ++ vs)))
        → (length (pre ++ (v ∷ [])) ≡ suc a → suc a + length vs ≡ ADDRESSES → suc a ≤ suc a → read_firsts (many vs) (suc a) ((pre ++ (v ∷ [])) ++ replicate (length vs) 0) (firsts_of (suc a) vs ++ rest) ≡ good (begun_file ((pre ++ (v ∷ [])) ++ vs)))
        → read_firsts (cond b (many vs) (suc (many vs))) low (pre ++ 0 ∷ replicate (length vs) 0) ((cond b [] (a ∷ (v % BYTE) ∷ (v / BYTE) ∷ []) ++ firsts_of (suc a) vs) ++ rest) ≡ good (begun_file (pre ++ v ∷ vs))
    go true q k m =
        ap (λ (s : List ℕ). read_firsts (many vs) low s (firsts_of (suc a) vs ++ rest)) (sym (append_snoc pre 0 (replicate (length vs) 0)))
        ∙ k (long 0) (omega arith) (omega arith)
        ∙ ap (λ (s : List ℕ). good (begun_file s)) (append_snoc pre 0 vs ∙ ap (λ (x : ℕ). pre ++ x ∷ vs) (sym (so-eq.0 q)))
    go false q k m =
        let whole : v % BYTE + BYTE * (v / BYTE) ≡ v = two_back v in
        let here : (eqb (v % BYTE + BYTE * (v / BYTE)) 0 || ltb a low) ≡ false = ap₂ (λ (x y : Bool). x || y) (ap (λ (n : ℕ). eqb n 0) whole ∙ q) (le-ltb a low h) in
        ap (λ (b : Bool). cond b (back NoEntry 0) (cond (leb ADDRESSES a) (back PastBound 0) (read_firsts (many vs) (a + 1) (set (pre ++ 0 ∷ replicate (length vs) 0) a (v % BYTE + BYTE * (v / BYTE))) (firsts_of (suc a) vs ++ rest)))) here
        ∙ ap (λ (b : Bool). cond b (back PastBound 0) (read_firsts (many vs) (a + 1) (set (pre ++ 0 ∷ replicate (length vs) 0) a (v % BYTE + BYTE * (v / BYTE))) (firsts_of (suc a) vs ++ rest))) (lt-leb ADDRESSES a (omega arith))
        ∙ ap₂ (λ (n : ℕ) (s : List ℕ). read_firsts (many vs) n s (firsts_of (suc a) vs ++ rest)) (add-one a)
        (ap (set (pre ++ 0 ∷ replicate (length vs) 0) a) whole ∙ set_at pre 0 (replicate (length vs) 0) v a l ∙ sym (append_snoc pre v (replicate (length vs) 0)))
        ∙ m (long v) (omega arith) (omega arith)
        ∙ ap (λ (s : List ℕ). good (begun_file s)) (append_snoc pre v vs)

-- addresses without a first value other than 0 take no entry
abbrev pub zeros : ℕ → List ℕ
zeros n = replicate n 0

many-zeros : (d : ℕ) (l : List ℕ) → many (zeros d ++ l) ≡ many l
unfolding many
many-zeros zero l = refl
many-zeros (suc d) l = many-zeros d l

firsts-zeros : (d a : ℕ) (l : List ℕ) → firsts_of a (zeros d ++ l) ≡ firsts_of (a + d) l
unfolding first_entry firsts_of
firsts-zeros zero a l = ap (λ (n : ℕ). firsts_of n l) (omega arith)
firsts-zeros (suc d) a l = firsts-zeros d (suc a) l ∙ ap (λ (n : ℕ). firsts_of n l) (omega arith)

zeros-split : (d n : ℕ) → zeros (d + suc n) ≡ zeros d ++ 0 ∷ zeros n
zeros-split d n = let e : d + suc n ≡ suc (n + d) = omega arith in ap zeros e ∙ go d
  where
    go : (d : ℕ) → zeros (suc (n + d)) ≡ zeros d ++ 0 ∷ zeros n
    go zero = let e : suc (n + 0) ≡ suc n = omega arith in ap zeros e
    go (suc d) = let e : suc (n + suc d) ≡ suc (suc (n + d)) = omega arith in ap zeros e ∙ ap (λ (l : List ℕ). 0 ∷ l) (go d)

-- three bytes off the front
three : (b : List ℕ) → FIRST ≤ length b → b ≡ get_or b 0 0 ∷ get_or b 1 0 ∷ get_or b 2 0 ∷ drop FIRST b
three [] h = absurd (omega arith)
three (a ∷ []) h = absurd (omega arith)
three (a ∷ b ∷ []) h = absurd (omega arith)
three (a ∷ b ∷ c ∷ bs) h = refl

-- c entries are those of the first values `tail` of the addresses from low on, which stand behind `pre`
pub record Entries (c low n : ℕ) (pre b : List ℕ) (u : Trace) : Type 0 where
  pub tail : List ℕ
  pub long : length tail ≡ n
  pub all : u ≡ begun_file (pre ++ tail)
  pub count : c ≡ many tail
  pub bytes : b ≡ firsts_of low tail ++ drop (FIRST * c) b

pub firsts-only : (c low n : ℕ) (pre b : List ℕ) (u : Trace) → length pre ≡ low → low + n ≡ ADDRESSES → Bytes b → FIRST * c ≤ length b → read_firsts c low (pre ++ zeros n) b ≡ good u → Entries c low n pre b u
unfolding read_firsts many firsts_of
firsts-only zero low n pre b u l e h room q =
    record {
      tail = zeros n;
      long = length-replicate {A = ℕ} n 0;
      all = sym (ap (λ (r : Reading). r.trace) q);
      count = sym (ap many (sym (append-nil (zeros n))) ∙ many-zeros n [] ∙ none);
      bytes = ap (λ (s : List ℕ). s ++ b) (sym (ap (firsts_of low) (sym (append-nil (zeros n))) ∙ firsts-zeros n low [] ∙ nothing (low + n)));
    }
  where
    none : many [] ≡ 0
    none = refl

    nothing : (a : ℕ) → firsts_of a [] ≡ []
    nothing a = refl
firsts-only (suc c) low n pre b u l e h room q =
    go (eqb (two_in b 1) 0 || ltb (get_or b 0 0) low) refl (leb ADDRESSES (get_or b 0 0)) refl q (λ pre' n'. firsts-only c (get_or b 0 0 + 1) n' pre' (drop FIRST b) u)
  where
    a : ℕ
    a = get_or b 0 0

    v : ℕ
    v = two_in b 1

    go : (x : Bool) → (eqb (two_in b 1) 0 || ltb (get_or b 0 0) low) ≡ x → (y : Bool) → leb ADDRESSES (get_or b 0 0) ≡ y
        → cond x (back NoEntry 0) (cond y (back PastBound 0) (read_firsts c (get_or b 0 0 + 1) (set (pre ++ zeros n) (get_or b 0 0) (two_in b 1)) (drop FIRST b))) ≡ good u
        → ((pre' : List ℕ) (n' : ℕ) → length pre' ≡ get_or b 0 0 + 1 → get_or b 0 0 + 1 + n' ≡ ADDRESSES → Bytes (drop FIRST b) → FIRST * c ≤ length (drop FIRST b)
        → read_firsts c (get_or b 0 0 + 1) (pre' ++ zeros n') (drop FIRST b) ≡ good u → Entries c (get_or b 0 0 + 1) n' pre' (drop FIRST b) u)
        → Entries (suc c) low n pre b u
    go true s y t q rec = absurd (never q)
    go false s true t q rec = absurd (never q)
    go false s false t q rec = record {
      tail = zeros d ++ v ∷ r.tail;
      long = omega (arith, length-append (zeros d) (v ∷ r.tail), length-replicate {A = ℕ} d 0, r.long, sum);
      all = r.all ∙ ap begun_file (append_snoc (pre ++ zeros d) v r.tail ∙ append_assoc pre (zeros d) (v ∷ r.tail));
      count = ap suc r.count ∙ sym one_more ∙ sym (many-zeros d (v ∷ r.tail));
      bytes = whole;
    }
      where
        other : v ≢ 0
        other z = false≢true (sym s ∙ (or-iff (same-iff {a = eqb v 0}) same-iff).1 (inl (so-eq.1 z)))

        rising : low ≤ a
        rising = elim (dec_lt a low) [ yes g ↦ absurd (false≢true (sym s ∙ (or-iff (same-iff {a = eqb v 0}) same-iff).1 (inr (lt-ltb a low g)))) | no g ↦ omega arith ]

        below : a < ADDRESSES
        below = elim (dec_lt a ADDRESSES) [ yes g ↦ g | no g ↦ absurd (false≢true (sym t ∙ le-leb ADDRESSES a (omega arith))) ]

        d : ℕ
        d = a - low

        n' : ℕ
        n' = n - suc d

        sum : n ≡ d + suc n'
        sum = omega (arith, below, rising)

        pre' : List ℕ
        pre' = (pre ++ zeros d) ++ (v ∷ [])

        set_here : set (pre ++ zeros n) a v ≡ pre' ++ zeros n'
        set_here =
            ap (λ (s : List ℕ). set (pre ++ s) a v) (ap zeros sum ∙ zeros-split d n')
            ∙ ap (λ (s : List ℕ). set s a v) (sym (append_assoc pre (zeros d) (0 ∷ zeros n')))
            ∙ set_at (pre ++ zeros d) 0 (zeros n') v a (omega (arith, length-append pre (zeros d), length-replicate {A = ℕ} d 0, l, rising))
            ∙ sym (append_snoc (pre ++ zeros d) v (zeros n'))

        r : Entries c (a + 1) n' pre' (drop FIRST b) u
        r = rec pre' n' (omega (arith, length-append (pre ++ zeros d) (v ∷ []), length-append pre (zeros d), length-replicate {A = ℕ} d 0, l, rising)) (omega (arith, below, rising)) (bytes_drop FIRST b h) (omega (arith, length-drop FIRST b, room)) (ap (λ (s : List ℕ). read_firsts c (a + 1) s (drop FIRST b)) (sym set_here) ∙ q)

        one_more : many (v ∷ r.tail) ≡ suc (many r.tail)
        one_more = ap (λ (x : Bool). cond x (many r.tail) (suc (many r.tail))) (off (λ z. other (so-eq.0 z)))

        -- the entry of a, and those behind it
        entry : firsts_of a (v ∷ r.tail) ≡ a ∷ two v ++ firsts_of (a + 1) r.tail
        entry = ap₂ (λ (x : List ℕ) (k : ℕ). x ++ firsts_of k r.tail) (first_some a v other) (sym (add-one a))

        whole : b ≡ firsts_of low (zeros d ++ v ∷ r.tail) ++ drop (FIRST * suc c) b
        whole =
            let x : get_or b 1 0 ≡ v % BYTE = lower (get_or b 1 0) (get_or b 2 0) (h 1) in
            let y : get_or b 2 0 ≡ v / BYTE = upper (get_or b 1 0) (get_or b 2 0) (h 1) in
            let k : low + d ≡ a = omega (arith, rising) in
            let m : FIRST + FIRST * c ≡ FIRST * suc c = omega arith in
            three b (omega (arith, room))
            ∙ ap₂ (λ (x y : ℕ). a ∷ x ∷ y ∷ drop FIRST b) x y
            ∙ ap (λ (s : List ℕ). a ∷ (v % BYTE) ∷ (v / BYTE) ∷ s) (r.bytes ∙ ap (λ (s : List ℕ). firsts_of (a + 1) r.tail ++ s) (drop-drop (FIRST * c) FIRST b ∙ ap (λ (i : ℕ). drop i b) m))
            ∙ ap (λ (s : List ℕ). s ++ drop (FIRST * suc c) b) (sym (firsts-zeros d low (v ∷ r.tail) ∙ ap (λ (i : ℕ). firsts_of i (v ∷ r.tail)) k ∙ entry))

pub firsts-well : (c low : ℕ) (vs b : List ℕ) (u : Trace) → So (well_formed (begun_file vs)) → Bytes b → read_firsts c low vs b ≡ good u → So (well_formed u)
unfolding read_firsts started
firsts-well zero low vs b u w h q = subst (λ (t : Trace). So (well_formed t)) (ap (λ (r : Reading). r.trace) q) w
firsts-well (suc c) low vs b u w h q = go (eqb (two_in b 1) 0 || ltb (get_or b 0 0) low) (leb ADDRESSES (get_or b 0 0)) q (firsts-well c (get_or b 0 0 + 1) (set vs (get_or b 0 0) (two_in b 1)) (drop FIRST b) u)
  where
    next : So (well_formed (begun_file (set vs (get_or b 0 0) (two_in b 1))))
    next = started-well (begun_file vs) (get_or b 0 0) (two_in b 1) refl (omega (arith, h 1, h 2)) w

    go : (x y : Bool) → cond x (back NoEntry 0) (cond y (back PastBound 0) (read_firsts c (get_or b 0 0 + 1) (set vs (get_or b 0 0) (two_in b 1)) (drop FIRST b))) ≡ good u
        → (So (well_formed (begun_file (set vs (get_or b 0 0) (two_in b 1)))) → Bytes (drop FIRST b) → read_firsts c (get_or b 0 0 + 1) (set vs (get_or b 0 0) (two_in b 1)) (drop FIRST b) ≡ good u → So (well_formed u)) → So (well_formed u)
    go true y q rec = absurd (never q)
    go false true q rec = absurd (never q)
    go false false q rec = rec next (bytes_drop FIRST b h) q
