-- What was written, laid by address, and the values of the digits in it.
--
--   writer-to-iff         == what the test of a writer says
--   wrote_one, wrote_none == one record more
--   below-few, below_next == what is laid are no more than the records; an address begins where the one below it ends
--   below-piece           == what was written to an address stands in one piece
--   put-none, put-like, put-room, put_on, put-off, put_next, laid_on == it is laid a record and an address at a time
--   others-split, with-own, without-own, range_split == what the writers before a load and behind it wrote
--   value-zero, value-some, value_room, value-past, value-here == the value of a digit: the first value, or what stands at its place, or one place further
use mathlib.Core.Path.{◌≡◌, refl, sym, ap, ap₂, ◌∙◌, subst}
use mathlib.Core.Logic.{◌≢◌, ◌↔◌, inl, inr}
use mathlib.Core.Bool.{Bool, true, false, cond, So, not, ◌&&◌, false≢true}
use mathlib.Core.List.{List, [], ◌∷◌, ◌++◌, append_assoc, append-nil}
use Prim.Native.Nat.{ℕ, zero, suc, ◌+◌, ◌-◌, ◌<◌, ◌≤◌}
use native.Mathlib.Numerals.{add-one}
use native.Mathlib.Omega.{arith}
use lib.Dec.{eqb, ltb}
use lib.ListN.{length, get_or, set, take, replicate, length-append, length-set, length-replicate, get_or-replicate, get_or-append}
use lib.Seq.{take-suc-set, get_or-set_same, get_or-set_other, get_or-take, get_or-append-add}
use Rattle.laws.proofs.Tests.{eq?, test, off, and-iff, same-iff, so-eq, so-lt, so-not}
use Rattle.trace.specs.Bounds.{RECORDS, ADDRESSES}
use Rattle.trace.specs.Op.{address, written, writes}
use Rattle.trace.specs.Trace.{at, first}
use Rattle.trace.specs.declared.Trace.{Trace}
use Rattle.laws.specs.Picks.{picks}
use Rattle.signature.specs.Reads.{other, each, values, range_of, value_of}
use Rattle.signature.specs.inner.ValuesLaid.{writer_to, written_by, written_below, own_place, ValuesPut, ValuesLaid, AllValues}
use Rattle.signature.specs.declared.WrittenValues.{WrittenValues}
use Rattle.signature.proofs.Lists.{pick-step, pick-snoc, pick-test, pick-parts, each_long, each_append}
use Rattle.signature.proofs.Few.{pick-short, split-few}

-- a value passed over: what stands before it stays, and what stands behind it is one place further
module _ (A B : List ℕ) (v k : ℕ) where
  over-front : k < length A → get_or (A ++ (v ∷ B)) k 0 ≡ get_or (A ++ B) k 0
  over-front h = get_or-append A (v ∷ B) 0 k h ∙ sym (get_or-append A B 0 k h)

  over-behind : length A ≤ k → get_or (A ++ (v ∷ B)) (k + 1) 0 ≡ get_or (A ++ B) k 0
  over-behind h =
      let m = k - length A in
      let e : k + 1 ≡ length A + suc m = omega arith in
      let f : k ≡ length A + m = omega arith in
      ap (λ (n : ℕ). get_or (A ++ (v ∷ B)) n 0) e ∙ get_or-append-add A (v ∷ B) (suc m) 0 ∙ sym (ap (λ (n : ℕ). get_or (A ++ B) n 0) f ∙ get_or-append-add A B m 0)

module _ (t : Trace) where
  -- what the test of a writer says
  pub writer-to-iff : (a i : ℕ) → So (writer_to t a i) ↔ (So (writes (at t i)) × (address (at t i) ≡ a))
  unfolding writer_to
  writer-to-iff a i = and-iff (same-iff {a = writes (at t i)}) (so-eq {m = address (at t i)} {n = a})

  -- one record more
  module _ (a i : ℕ) where
    next : (b : Bool) → writer_to t a i ≡ b → picks (writer_to t a) 0 (i + 1) ≡ picks (writer_to t a) 0 i ++ cond b (i ∷ []) []
    next b s =
        let z : 0 + i ≡ i = omega arith in
        ap (picks (writer_to t a) 0) (add-one i)
        ∙ pick-snoc (writer_to t a) 0 i
        ∙ ap (λ (j : ℕ). picks (writer_to t a) 0 i ++ cond (writer_to t a j) (j ∷ []) []) z
        ∙ ap (λ (b : Bool). picks (writer_to t a) 0 i ++ cond b (i ∷ []) []) s

    pub wrote_one : So (writer_to t a i) → written_by t a (i + 1) ≡ written_by t a i ++ (written (at t i) ∷ [])
    unfolding each
    wrote_one s = ap (each (λ j. written (at t j))) (next true s) ∙ each_append (λ j. written (at t j)) (picks (writer_to t a) 0 i) (i ∷ [])

    pub wrote_none : writer_to t a i ≡ false → written_by t a (i + 1) ≡ written_by t a i
    wrote_none s = ap (each (λ j. written (at t j))) (next false s ∙ append-nil (picks (writer_to t a) 0 i))

  head-one : (a i k : ℕ) → So (writer_to t a i) → length (picks (writer_to t a) i (suc k)) ≡ suc (length (picks (writer_to t a) (suc i) k))
  unfolding picks
  head-one a i k s = ap (λ (b : Bool). length (cond b (i ∷ picks (writer_to t a) (suc i) k) (picks (writer_to t a) (suc i) k))) s

  -- a writer of an address below a
  lower_writer : ℕ → ℕ → Bool
  lower_writer a j = writes (at t j) && ltb (address (at t j)) a

  lower-iff : (a j : ℕ) → So (lower_writer a j) ↔ (So (writes (at t j)) × (address (at t j) < a))
  unfolding lower_writer
  lower-iff a j = and-iff (same-iff {a = writes (at t j)}) (so-lt {m = address (at t j)} {n = a})

  few-below : (a : ℕ) → length (written_below t a) ≤ length (picks (lower_writer a) 0 t.len)
  unfolding written_below
  few-below zero = omega arith
  few-below (suc a) =
      omega (
        arith,
        length-append (written_below t a) (written_by t a t.len),
        each_long (λ j. written (at t j)) (picks (writer_to t a) 0 t.len),
        few-below a,
        split-few (lower_writer a) (writer_to t a) (lower_writer (suc a))
            (λ j s. let u = (lower-iff a j).0 s in ((lower-iff (suc a) j).1 (u.0, omega (arith, u.1)), off (λ w. omega (arith, u.1, ((writer-to-iff a j).0 w).1))))
            (λ j s. let u = (writer-to-iff a j).0 s in (lower-iff (suc a) j).1 (u.0, omega (arith, u.1)))
            0 t.len,
      )

  pub below-few : (a : ℕ) → length (written_below t a) ≤ t.len
  below-few a = omega (arith, few-below a, pick-short (lower_writer a) 0 t.len)

  -- the address behind it begins where an address ends
  pub below_next : (a : ℕ) → length (written_below t (suc a)) ≡ length (written_below t a) + length (written_by t a t.len)
  unfolding written_below
  below_next a = length-append (written_below t a) (written_by t a t.len)

  below-rise : (k a : ℕ) → length (written_below t a) ≤ length (written_below t (k + a))
  below-rise zero a = let z : 0 + a ≡ a = omega arith in omega (arith, ap (λ (b : ℕ). length (written_below t b)) z)
  below-rise (suc k) a = let z : suc k + a ≡ suc (k + a) = omega arith in omega (arith, ap (λ (b : ℕ). length (written_below t b)) z, below_next (k + a), below-rise k a)

  -- what was written to an address stands in one piece
  pub below-piece : (n a k : ℕ) → a < n → k < length (written_by t a t.len) → get_or (written_below t n) (length (written_below t a) + k) 0 ≡ get_or (written_by t a t.len) k 0
  unfolding written_below
  below-piece zero a k h b = absurd (omega arith)
  below-piece (suc n) a k h b = elim (eq? a n) [
    | inl e ↦ ap (λ (a : ℕ). get_or (written_below t n ++ written_by t n t.len) (length (written_below t a) + k) 0) e ∙ get_or-append-add (written_below t n) (written_by t n t.len) k 0 ∙ sym (ap (λ (a : ℕ). get_or (written_by t a t.len) k 0) e)
    | inr d ↦
        let z : n - suc a + suc a ≡ n = omega arith in
        let r : length (written_below t a) + k < length (written_below t n) = omega (arith, below_next a, below-rise (n - suc a) (suc a), ap (λ (b : ℕ). length (written_below t b)) z) in
        get_or-append (written_below t n) (written_by t n t.len) 0 (length (written_below t a) + k) r ∙ below-piece n a k (omega arith) b
  ]

  -- nothing laid yet
  pub put-none : t.len ≤ RECORDS → ValuesLaid t 0 (record { of = replicate RECORDS 0; count = 0; start = replicate ADDRESSES 0; own = replicate RECORDS RECORDS })
  unfolding written_below picks each
  put-none few = record {
    put = record {
      all = refl;
      counted = refl;
      long = length-replicate {A = ℕ} RECORDS 0;
      wide = length-replicate {A = ℕ} RECORDS RECORDS;
      owns = λ j h s e. elim e [ inl u ↦ absurd (omega (arith, u)) | inr u ↦ absurd (omega (arith, u.1)) ];
      nones = λ j h s. get_or-replicate RECORDS j RECORDS 0 (omega arith);
    };
    starts = λ b h. absurd (omega arith);
    full = length-replicate {A = ℕ} ADDRESSES 0;
  }

  pub put-like : (a i : ℕ) (of of' own own' : List ℕ) (n n' : ℕ) → of ≡ of' → own ≡ own' → n ≡ n' → ValuesPut t a i of' own' n' → ValuesPut t a i of own n
  put-like a i of of' own own' n n' e f g p = subst (λ (l : List ℕ). ValuesPut t a i l own n) (sym e) (subst (λ (l : List ℕ). ValuesPut t a i of' l n) (sym f) (subst (ValuesPut t a i of' own') (sym g) p))

  module _ (few : t.len ≤ RECORDS) (a i : ℕ) (of own : List ℕ) (n : ℕ) (p : ValuesPut t a i of own n) where
    pub put-room : i < t.len → So (writer_to t a i) → n < RECORDS
    put-room h s =
        let e : t.len ≡ i + suc (t.len - (i + 1)) = omega arith in
        let f = ap (λ (k : ℕ). length (picks (writer_to t a) 0 k)) e in
        let g = ap length (pick-parts (writer_to t a) 0 i (suc (t.len - (i + 1)))) in
        let z : 0 + i ≡ i = omega arith in
        let w = ap (λ (j : ℕ). length (picks (writer_to t a) j (suc (t.len - (i + 1))))) z in
        let one = head-one a i (t.len - (i + 1)) s in
        omega (
          arith,
          p.counted,
          below-few (suc a),
          below_next a,
          each_long (λ j. written (at t j)) (picks (writer_to t a) 0 i),
          each_long (λ j. written (at t j)) (picks (writer_to t a) 0 t.len),
          length-append (picks (writer_to t a) 0 i) (picks (writer_to t a) (0 + i) (suc (t.len - (i + 1)))),
        )

    -- a writer of the address: its value, and its place
    pub put_on : (h : i < t.len) → So (writer_to t a i) → ValuesPut t a (i + 1) (set of n (written (at t i))) (set own i n) (n + 1)
    put_on h s =
        let v = written (at t i) in
        let w = (writer-to-iff a i).0 s in
        let room = put-room h s in
        let o = wrote_one a i s in
        record {
          all = ap (λ (k : ℕ). take k (set of n v)) (add-one n)
              ∙ take-suc-set of n v (omega (arith, p.long))
              ∙ ap (λ (l : List ℕ). l ++ (v ∷ [])) p.all
              ∙ append_assoc (written_below t a) (written_by t a i) (v ∷ [])
              ∙ ap (λ (l : List ℕ). written_below t a ++ l) (sym o);
          counted = omega (arith, p.counted, ap length o, length-append (written_by t a i) (v ∷ []));
          long = length-set of n v ∙ p.long;
          wide = length-set own i n ∙ p.wide;
          owns = λ j b q e. elim (eq? j i) [
            | inl d ↦
                ap (λ (j : ℕ). get_or (set own i n) j 0) d
                ∙ get_or-set_same own i n 0 (omega (arith, p.wide))
                ∙ p.counted
                ∙ sym (ap (λ (b : ℕ). length (written_below t b) + length (written_by t b i)) w.1)
                ∙ ap (own_place t) (sym d)
            | inr m ↦ get_or-set_other own i j n 0 m ∙ p.owns j b q (elim e [ inl u ↦ inl u | inr u ↦ inr (u.0, omega (arith, u.1, m)) ])
          ];
          nones = λ j b q. elim (eq? j i) [
            | inl d ↦ absurd (false≢true (sym q ∙ ap (λ (j : ℕ). writes (at t j)) d ∙ w.0))
            | inr m ↦ get_or-set_other own i j n 0 m ∙ p.nones j b q
          ];
        }

    -- any other record
    pub put-off : writer_to t a i ≡ false → ValuesPut t a (i + 1) of own n
    put-off s =
        let o = wrote_none a i s in
        record {
          all = p.all ∙ ap (λ (l : List ℕ). written_below t a ++ l) (sym o);
          counted = omega (arith, p.counted, ap length o);
          long = p.long;
          wide = p.wide;
          owns = λ j b q e. p.owns j b q (elim e [
            | inl u ↦ inl u
            | inr u ↦ elim (eq? j i) [
              | inl d ↦ absurd (false≢true (sym s ∙ ap (writer_to t a) (sym d) ∙ (writer-to-iff a j).1 (q, u.0)))
              | inr m ↦ inr (u.0, omega (arith, u.1, m))
            ]
          ]);
          nones = p.nones;
        }

    -- all records looked at, and the address is done
    pub put_next : t.len ≤ i → i ≤ t.len → ValuesPut t (suc a) 0 of own n
    unfolding written_below picks each
    put_next l h =
        let d : i ≡ t.len = omega arith in
        let f = ap (written_by t a) d in
        record {
          all = p.all ∙ ap (λ (l : List ℕ). written_below t a ++ l) f ∙ sym (append-nil (written_below t a ++ written_by t a t.len));
          counted = omega (arith, p.counted, ap length f, length-append (written_below t a) (written_by t a t.len));
          long = p.long;
          wide = p.wide;
          owns = λ j b q e. p.owns j b q (elim e [
            | inl u ↦ elim (eq? (address (at t j)) a) [ inl d ↦ inr (d, omega arith) | inr m ↦ inl (omega (arith, u, m)) ]
            | inr u ↦ absurd (omega (arith, u.1))
          ]);
          nones = p.nones;
        }

  -- an address begins where what is laid ends
  begins : (a : ℕ) (x : WrittenValues) → ValuesLaid t a x → x.count ≡ length (written_below t a)
  unfolding picks each
  begins a x c = omega (arith, c.put.counted)

  -- an address more
  pub laid_on : (a : ℕ) (x : WrittenValues) → a < ADDRESSES → ValuesLaid t a x → (of own : List ℕ) (n : ℕ) → ValuesPut t (suc a) 0 of own n → ValuesLaid t (a + 1) (record { of = of; count = n; start = set x.start a x.count; own = own })
  laid_on a x l c of own n p = subst (λ (b : ℕ). ValuesLaid t b (record { of = of; count = n; start = set x.start a x.count; own = own })) (sym (add-one a)) (record {
    put = p;
    starts = λ b h. elim (eq? b a) [
      | inl d ↦ ap (λ (b : ℕ). get_or (set x.start a x.count) b 0) d ∙ get_or-set_same x.start a x.count 0 (omega (arith, c.full)) ∙ begins a x c ∙ ap (λ (b : ℕ). length (written_below t b)) (sym d)
      | inr m ↦ get_or-set_other x.start a b x.count 0 m ∙ c.starts b (omega arith)
    ];
    full = length-set x.start a x.count ∙ c.full;
  })

-- the writers before a load and behind it
module _ (t : Trace) (L : ℕ) (h : L < t.len) where
  abbrev mine : ℕ
  mine = address (at t L)

  abbrev front : List ℕ
  front = written_by t mine L

  abbrev behind : List ℕ
  behind = each (λ j. written (at t j)) (picks (writer_to t mine) (L + 1) (t.len - (L + 1)))

  -- the load itself is none of its writers, and the others are those that write its address
  not_own : other t L L ≡ false
  unfolding other
  not_own = off (λ s. so-not.0 ((and-iff (same-iff {a = writes (at t L) && eqb mine mine}) (same-iff {a = not (eqb L L)})).0 s).1 ((so-eq {m = L} {n = L}).1 refl))

  all_others : (j : ℕ) → j ≢ L → other t L j ≡ writer_to t mine j
  unfolding other writer_to
  all_others j d = ap (λ (b : Bool). (writes (at t j) && eqb (address (at t j)) mine) && not b) (off (λ s. d ((so-eq {m = j} {n = L}).0 s))) ∙ whole (writes (at t j) && eqb (address (at t j)) mine)
    where
      whole : (b : Bool) → (b && true) ≡ b
      whole true = refl
      whole false = refl

  split : (q : ℕ → Bool) → picks q 0 t.len ≡ picks q 0 L ++ cond (q L) (L ∷ picks q (L + 1) (t.len - (L + 1))) (picks q (L + 1) (t.len - (L + 1)))
  split q =
      let e : t.len ≡ L + (t.len - L) = omega arith in
      let z : 0 + L ≡ L = omega arith in
      ap (picks q 0) e ∙ pick-parts q 0 L (t.len - L) ∙ ap (λ (i : ℕ). picks q 0 L ++ picks q i (t.len - L)) z ∙ ap (λ (l : List ℕ). picks q 0 L ++ l) (pick-step q t.len L h)

  pub others-split : each (λ j. written (at t j)) (picks (other t L) 0 t.len) ≡ front ++ behind
  others-split =
      ap (each (λ j. written (at t j)))
      (split (other t L)
      ∙ ap (λ (b : Bool). picks (other t L) 0 L ++ cond b (L ∷ picks (other t L) (L + 1) (t.len - (L + 1))) (picks (other t L) (L + 1) (t.len - (L + 1)))) not_own
      ∙ ap₂ (λ (k l : List ℕ). k ++ l) (pick-test (other t L) (writer_to t mine) 0 L (λ j u v. all_others j (λ d. omega (arith, d)))) (pick-test (other t L) (writer_to t mine) (L + 1) (t.len - (L + 1)) (λ j u v. all_others j (λ d. omega (arith, d)))))
      ∙ each_append (λ j. written (at t j)) (picks (writer_to t mine) 0 L) (picks (writer_to t mine) (L + 1) (t.len - (L + 1)))

  writers-split : (b : Bool) → writer_to t mine L ≡ b → written_by t mine t.len ≡ front ++ each (λ j. written (at t j)) (cond b (L ∷ picks (writer_to t mine) (L + 1) (t.len - (L + 1))) (picks (writer_to t mine) (L + 1) (t.len - (L + 1))))
  writers-split b s =
      ap (each (λ j. written (at t j)))
      (split (writer_to t mine) ∙ ap (λ (b : Bool). picks (writer_to t mine) 0 L ++ cond b (L ∷ picks (writer_to t mine) (L + 1) (t.len - (L + 1))) (picks (writer_to t mine) (L + 1) (t.len - (L + 1)))) s)
      ∙ each_append (λ j. written (at t j)) (picks (writer_to t mine) 0 L) (cond b (L ∷ picks (writer_to t mine) (L + 1) (t.len - (L + 1))) (picks (writer_to t mine) (L + 1) (t.len - (L + 1))))

  pub with-own : So (writes (at t L)) → written_by t mine t.len ≡ front ++ (written (at t L) ∷ behind)
  unfolding each
  with-own s = writers-split true ((writer-to-iff t mine L).1 (s, refl))

  pub without-own : writes (at t L) ≡ false → written_by t mine t.len ≡ front ++ behind
  without-own s = writers-split false (off (λ w. false≢true (sym s ∙ ((writer-to-iff t mine L).0 w).0)))

  pub range_split : range_of t L ≡ suc (length front + length behind)
  unfolding values
  range_split = omega (arith, ap length others-split, length-append front behind)

  pub value-zero : (d : ℕ) → d ≡ 0 → first t mine ≡ value_of t L d
  unfolding values
  value-zero d e = sym (ap (λ (d : ℕ). get_or (first t mine ∷ each (λ j. written (at t j)) (picks (other t L) 0 t.len)) d 0) e)

  pub value-some : (d : ℕ) → 0 < d → get_or (front ++ behind) (d - 1) 0 ≡ value_of t L d
  unfolding values
  value-some d p =
      let e : d ≡ suc (d - 1) = omega arith in
      sym (ap (λ (d : ℕ). get_or (first t mine ∷ each (λ j. written (at t j)) (picks (other t L) 0 t.len)) d 0) e ∙ ap (λ (l : List ℕ). get_or l (d - 1) 0) others-split)

  -- the value of a digit, by its place among what was written
  module _ (few : t.len ≤ RECORDS) (below : mine < ADDRESSES) (x : WrittenValues) (c : AllValues t x) (a : ℕ) (q : a ≡ mine) where
    base : get_or x.start a 0 ≡ length (written_below t mine)
    base = ap (λ (b : ℕ). get_or x.start b 0) q ∙ c.starts mine below

    laid-at : (k : ℕ) → k < length (written_by t mine t.len) → (get_or x.start a 0 + k < RECORDS) × (get_or x.of (get_or x.start a 0 + k) 0 ≡ get_or (written_by t mine t.len) k 0)
    unfolding picks each
    laid-at k b =
        let z : ADDRESSES - suc mine + suc mine ≡ ADDRESSES = omega arith in
        let all : get_or x.start a 0 + k < x.count = omega (arith, base, c.put.counted, below_next t mine, below-rise t (ADDRESSES - suc mine) (suc mine), ap (λ (b : ℕ). length (written_below t b)) z) in (
          omega (arith, all, c.put.counted, below-few t ADDRESSES),
          sym (get_or-take x.count x.of (get_or x.start a 0 + k) 0 all)
              ∙ ap (λ (l : List ℕ). get_or l (get_or x.start a 0 + k) 0) (c.put.all ∙ append-nil (written_below t ADDRESSES))
              ∙ ap (λ (n : ℕ). get_or (written_below t ADDRESSES) (n + k) 0) base
              ∙ below-piece t ADDRESSES mine k below b,
        )

    module _ (d : ℕ) (p : 0 < d) (r : d < range_of t L) where
      abbrev place : ℕ
      place = get_or x.start a 0 + (d - 1)

      pub value_room : place < RECORDS
      value_room = elim (test (writes (at t L))) [
        | inl s ↦ (laid-at (d - 1) (omega (arith, r, range_split, ap length (with-own s), length-append front (written (at t L) ∷ behind)))).0
        | inr s ↦ (laid-at (d - 1) (omega (arith, r, range_split, ap length (without-own s), length-append front behind))).0
      ]

      pub value-past : get_or x.own L 0 ≤ place → (place + 1 < RECORDS) × (get_or x.of (place + 1) 0 ≡ value_of t L d)
      value-past g = elim (test (writes (at t L))) [
        | inl s ↦
            let o = c.put.owns L h s (inl below) in
            let w = with-own s in
            let u = laid-at d (omega (arith, r, range_split, ap length w, length-append front (written (at t L) ∷ behind))) in
            let e : place + 1 ≡ get_or x.start a 0 + d = omega arith in
            let f : d ≡ d - 1 + 1 = omega arith in (
              omega (arith, u.0),
              ap (λ (n : ℕ). get_or x.of n 0) e ∙ u.1 ∙ ap₂ (λ (l : List ℕ) (n : ℕ). get_or l n 0) w f ∙ over-behind front behind (written (at t L)) (d - 1) (omega (arith, g, o, base)) ∙ value-some d p,
            )
        | inr s ↦ absurd (omega (arith, g, c.put.nones L h s, value_room))
      ]

      pub value-here : place < get_or x.own L 0 → get_or x.of place 0 ≡ value_of t L d
      value-here g = elim (test (writes (at t L))) [
        | inl s ↦
            let o = c.put.owns L h s (inl below) in
            let w = with-own s in
            let u = laid-at (d - 1) (omega (arith, r, range_split, ap length w, length-append front (written (at t L) ∷ behind))) in
            u.1 ∙ ap (λ (l : List ℕ). get_or l (d - 1) 0) w ∙ over-front front behind (written (at t L)) (d - 1) (omega (arith, g, o, base)) ∙ value-some d p
        | inr s ↦
            let w = without-own s in
            let u = laid-at (d - 1) (omega (arith, r, range_split, ap length w, length-append front behind)) in
            u.1 ∙ ap (λ (l : List ℕ). get_or l (d - 1) 0) w ∙ value-some d p
      ]
