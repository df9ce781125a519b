-- Where the digits stand: the digit by its place is the one that is taken in its turn.
--
--   Same x y       == the same word is open, and each record has the same digit
--   Along x y      == so it is within a thread, with as much of the word left
--   along-placed, along-looked, along-from == it stays so for one digit more, one record, all records
--   same-thread, same-all                  == and for a thread, and all of them
--   digits-small   == each load has one of its own digits
--   reads-placed   == so the reads by place are those that the words stand for
--   placed-in .. all-over == what each function of the code comes to
use mathlib.Core.Path.{◌≡◌, refl, sym, ap, ap₂, ◌∙◌, subst}
use mathlib.Core.Logic.{◌≢◌, inl, inr}
use mathlib.Core.Bool.{Bool, true, false, cond, So}
use mathlib.Core.List.{List}
use Prim.Native.Nat.{ℕ, zero, suc, ◌+◌, ◌-◌, ◌*◌, ◌/◌, ◌%◌, ◌<◌, ◌≤◌}
use native.Mathlib.Nat.{mul_comm, mul-suc, div-div-eq-div-mul, div-one, mod-one}
use native.Mathlib.Numerals.{add-one}
use native.Mathlib.Omega.{arith}
use lib.Dec.{leb}
use lib.ListN.{length, get_or, set, replicate, length-set, length-replicate, get_or-replicate}
use lib.Seq.{get_or-set_same, get_or-set_other}
use Rattle.laws.specs.Tests.{any}
use Rattle.laws.specs.Picks.{picks}
use Rattle.laws.proofs.Tests.{eq?}
use Rattle.trace.specs.Bounds.{RECORDS, THREADS}
use Rattle.trace.specs.Op.{reads}
use Rattle.trace.specs.Trace.{at}
use Rattle.trace.specs.FormFacts.{Form}
use Rattle.trace.specs.declared.Trace.{Trace}
use Rattle.signature.specs.DigitWords.{LIMIT}
use Rattle.signature.specs.Reads.{each, range_of, value_of, reader, loads}
use Rattle.signature.specs.Signature.{tops}
use Rattle.signature.specs.Unpack.{digit_in, read_of, reads_of}
use Rattle.signature.specs.inner.LoadLists.{DigitsSmall}
use Rattle.signature.specs.inner.WordsLaid.{
  Taking,
  step_on,
  took_of,
  looked_of,
  took_from,
  opened_of,
  shut_of,
  took_thread,
  took_all,
  none_taken,
  placed_of,
  placed_at,
  placed_from,
  past_thread,
  placed_thread,
  placed_all,
  none_placed,
  places_of,
  digit_by,
}
use Rattle.signature.specs.declared.Places.{Places}
use Rattle.signature.proofs.Lists.{each_on, pick-facts}
use Rattle.signature.proofs.Laid.{range-some}
use Rattle.signature.proofs.Taken.{digit-taken}
use Rattle.signature.proofs.Unpack.{digit-small}

module _ (ws : List ℕ) where
  pub record Same (x : Taking) (y : Places) : Type 0 where
    pub at : x.at ≡ y.at
    pub digits : (j : ℕ) → j < RECORDS → get_or x.of j 0 ≡ digit_by y ws j
    pub full : length x.of ≡ RECORDS
    pub full-word : length y.word ≡ RECORDS
    pub full-below : length y.below ≡ RECORDS
    pub full-range : length y.range ≡ RECORDS

  pub record Along (x : Taking) (y : Places) : Type 0 where
    pub same : Same x y
    pub q : x.q ≡ y.q
    pub left : x.left ≡ get_or ws y.at 0 / suc y.q

  module _ (x : Taking) (y : Places) (r i : ℕ) (rp : 0 < r) (b : i < RECORDS) (a : Along x y) where
    -- a digit put at i, and where it stands: the others stay
    put-digit : (d n p : ℕ) → d ≡ get_or ws n 0 / suc p % r → (j : ℕ) → j < RECORDS
        → get_or (set x.of i d) j 0 ≡ get_or ws (get_or (set y.word i n) j 0) 0 / suc (get_or (set y.below i p) j 0) % get_or (set y.range i r) j 0
    unfolding digit_by
    put-digit d n p e j h = elim (eq? j i) [
      | inl q ↦ subst (λ (j : ℕ). get_or (set x.of i d) j 0 ≡ get_or ws (get_or (set y.word i n) j 0) 0 / suc (get_or (set y.below i p) j 0) % get_or (set y.range i r) j 0) (sym q) here
      | inr m ↦ get_or-set_other x.of i j d 0 m ∙ a.same.digits j h ∙ sym (away m)
    ]
      where
        at-word : get_or (set y.word i n) i 0 ≡ n
        at-word = get_or-set_same y.word i n 0 (omega (arith, a.same.full-word))

        at-below : get_or (set y.below i p) i 0 ≡ p
        at-below = get_or-set_same y.below i p 0 (omega (arith, a.same.full-below))

        at-range : get_or (set y.range i r) i 0 ≡ r
        at-range = get_or-set_same y.range i r 0 (omega (arith, a.same.full-range))

        here : get_or (set x.of i d) i 0 ≡ get_or ws (get_or (set y.word i n) i 0) 0 / suc (get_or (set y.below i p) i 0) % get_or (set y.range i r) i 0
        here = get_or-set_same x.of i d 0 (omega (arith, a.same.full)) ∙ e ∙ sym (λ z. get_or ws (at-word z) 0 / suc (at-below z) % at-range z)

        away : j ≢ i → get_or ws (get_or (set y.word i n) j 0) 0 / suc (get_or (set y.below i p) j 0) % get_or (set y.range i r) j 0 ≡ get_or ws (get_or y.word j 0) 0 / suc (get_or y.below j 0) % get_or y.range j 0
        away m = λ z. get_or ws (get_or-set_other y.word i j n 0 m z) 0 / suc (get_or-set_other y.below i j p 0 m z) % get_or-set_other y.range i j r 0 m z

    widen : suc (suc y.q * r - 1) ≡ suc y.q * r
    widen = omega (arith, positive)
      where
        positive : 0 < suc y.q * r
        positive = omega (arith, mul_comm (suc y.q) r, mul-suc r y.q)

    -- both ways of a digit's turn
    abbrev takes : Bool → Taking
    takes c = cond c (record { of = set x.of i (x.left % r); at = x.at; q = suc x.q * r - 1; left = x.left / r })
        (record { of = set x.of i (get_or ws (step_on x.at) 0 % r); at = step_on x.at; q = r - 1; left = get_or ws (step_on x.at) 0 / r })

    abbrev places : Bool → Places
    places c = cond c (record { word = set y.word i y.at; below = set y.below i y.q; range = set y.range i r; at = y.at; q = suc y.q * r - 1 })
        (record { word = set y.word i (step_on y.at); below = set y.below i 0; range = set y.range i r; at = step_on y.at; q = r - 1 })

    turn : (c : Bool) → Along (takes c) (places c)
    unfolding digit_by
    turn true = record {
      same = record {
        at = a.same.at;
        digits = put-digit (x.left % r) y.at y.q (ap (λ (n : ℕ). n % r) a.left);
        full = length-set x.of i (x.left % r) ∙ a.same.full;
        full-word = length-set y.word i y.at ∙ a.same.full-word;
        full-below = length-set y.below i y.q ∙ a.same.full-below;
        full-range = length-set y.range i r ∙ a.same.full-range;
      };
      q = ap (λ (q : ℕ). suc q * r - 1) a.q;
      left = ap (λ (n : ℕ). n / r) a.left ∙ div-div-eq-div-mul (get_or ws y.at 0) (suc y.q) r ∙ ap (λ (n : ℕ). get_or ws y.at 0 / n) (sym widen);
    }
    turn false =
        let n : step_on x.at ≡ step_on y.at = ap step_on a.same.at in
        let w : get_or ws (step_on x.at) 0 ≡ get_or ws (step_on y.at) 0 = ap (λ (k : ℕ). get_or ws k 0) n in
        let back : r ≡ suc (r - 1) = omega arith in
        record {
          same = record {
            at = n;
            digits = put-digit (get_or ws (step_on x.at) 0 % r) (step_on y.at) 0 (ap (λ (k : ℕ). k % r) (w ∙ sym (div-one (get_or ws (step_on y.at) 0))));
            full = length-set x.of i (get_or ws (step_on x.at) 0 % r) ∙ a.same.full;
            full-word = length-set y.word i (step_on y.at) ∙ a.same.full-word;
            full-below = length-set y.below i 0 ∙ a.same.full-below;
            full-range = length-set y.range i r ∙ a.same.full-range;
          };
          q = refl;
          left = ap₂ (λ (k m : ℕ). k / m) w back;
        }

    pub along-placed : Along (took_of x ws r i) (placed_of y r i)
    unfolding took_of placed_of
    along-placed = subst (λ (c : Bool). Along (takes c) (places (leb (suc y.q * r) LIMIT))) (ap (λ (q : ℕ). leb (suc q * r) LIMIT) (sym a.q)) (turn (leb (suc y.q * r) LIMIT))

  module _ (t : Trace) (few : t.len ≤ RECORDS) where
    module _ (τ : ℕ) where
      pub along-looked : (x : Taking) (y : Places) (i : ℕ) → i < RECORDS → Along x y → Along (looked_of t τ ws x i) (placed_at t τ y i)
      unfolding looked_of placed_at
      along-looked x y i b a = go (reader t τ i)
        where
          go : (c : Bool) → Along (cond c (took_of x ws (range_of t i) i) x) (cond c (placed_of y (range_of t i) i) y)
          go true = along-placed x y (range_of t i) i (range-some t i) b a
          go false = a

      pub along-from : (k i : ℕ) (x : Taking) (y : Places) → i + k ≤ RECORDS → Along x y → Along (took_from t τ ws x i k) (placed_from t τ y i k)
      unfolding took_from placed_from
      along-from zero i x y b a = a
      along-from (suc k) i x y b a = along-from k (suc i) (looked_of t τ ws x i) (placed_at t τ y i) (omega arith) (along-looked x y i (omega arith) a)

      -- a thread's first word opened
      opens : (x : Taking) (y : Places) → Same x y → y.q ≡ 0 → Along (opened_of ws x) y
      unfolding opened_of
      opens x y s z = record {
        same = record { at = s.at; digits = s.digits; full = s.full; full-word = s.full-word; full-below = s.full-below; full-range = s.full-range };
        q = sym z;
        left = ap (λ (n : ℕ). get_or ws n 0) s.at ∙ sym (ap (λ (q : ℕ). get_or ws y.at 0 / suc q) z ∙ div-one (get_or ws y.at 0));
      }

      -- and its last one done with
      shuts : (x : Taking) (y : Places) → Along x y → Same (shut_of x) (past_thread y)
      unfolding shut_of past_thread digit_by
      shuts x y a = record { at = ap step_on a.same.at; digits = a.same.digits; full = a.same.full; full-word = a.same.full-word; full-below = a.same.full-below; full-range = a.same.full-range }

      pub same-thread : (x : Taking) (y : Places) → Same x y → y.q ≡ 0 → Same (took_thread t τ ws x) (placed_thread t τ y) × ((placed_thread t τ y).q ≡ 0)
      unfolding took_thread placed_thread past_thread
      same-thread x y s z = go (any t.len (reader t τ))
        where
          go : (c : Bool) → Same (cond c (shut_of (took_from t τ ws (opened_of ws x) 0 t.len)) x) (cond c (past_thread (placed_from t τ y 0 t.len)) y) × ((cond c (past_thread (placed_from t τ y 0 t.len)) y).q ≡ 0)
          go true = (shuts (took_from t τ ws (opened_of ws x) 0 t.len) (placed_from t τ y 0 t.len) (along-from t.len 0 (opened_of ws x) y (omega arith) (opens x y s z)), refl)
          go false = (s, z)

    pub same-all : (k τ : ℕ) (x : Taking) (y : Places) → Same x y → y.q ≡ 0 → Same (took_all t ws x τ k) (placed_all t y τ k)
    unfolding took_all placed_all
    same-all zero τ x y s z = s
    same-all (suc k) τ x y s z = let n = same-thread τ x y s z in same-all k (suc τ) (took_thread t τ ws x) (placed_thread t τ y) n.0 n.1

    -- at first every digit is 0
    begins : Same none_taken none_placed
    unfolding digit_by
    begins = record {
      at = refl;
      digits = λ j h. get_or-replicate RECORDS j 0 0 h ∙ sym (ap (λ (n : ℕ). get_or ws (get_or (replicate RECORDS 0) j 0) 0 / suc (get_or (replicate RECORDS 0) j 0) % n) (get_or-replicate RECORDS j 1 0 h) ∙ mod-one (get_or ws (get_or (replicate RECORDS 0) j 0) 0 / suc (get_or (replicate RECORDS 0) j 0)));
      full = length-replicate {A = ℕ} RECORDS 0;
      full-word = length-replicate {A = ℕ} RECORDS 0;
      full-below = length-replicate {A = ℕ} RECORDS 0;
      full-range = length-replicate {A = ℕ} RECORDS 1;
    }

    -- the digit of a load is the one that the words have for it, and so one of its own
    digit-placed : Form t → length ws ≤ RECORDS → length ws ≡ length (tops t) → (L : ℕ) → L < t.len → So (reads (at t L)) → digit_by (places_of t) ws L ≡ digit_in t ws L
    digit-placed form short l L h s = sym ((same-all THREADS 0 none_taken none_placed begins refl).digits L (omega (arith, h, few))) ∙ digit-taken t ws few short form l L h s

    pub digits-small : Form t → length ws ≤ RECORDS → length ws ≡ length (tops t) → DigitsSmall t (places_of t) ws
    digits-small form short l L h s = subst (λ (d : ℕ). d < range_of t L) (sym (digit-placed form short l L h s)) (digit-small t form ws L h s)

    pub reads-placed : Form t → length ws ≤ RECORDS → length ws ≡ length (tops t) → each (λ L. value_of t L (digit_by (places_of t) ws L)) (loads t) ≡ reads_of t ws
    unfolding loads
    reads-placed form short l =
        each_on (λ L. value_of t L (digit_by (places_of t) ws L)) (read_of t ws) (picks (λ L. reads (at t L)) 0 t.len)
        (λ L h. let u = pick-facts (λ L. reads (at t L)) 0 t.len L h in ap (value_of t L) (digit-placed form short l L (omega (arith, u.0)) u.1))

-- ---- what each function of the code comes to, by the tests that lead there
module _ (x : Places) where
  module _ (r i : ℕ) where
    abbrev ways : Bool → Places
    ways c = cond c (record { word = set x.word i x.at; below = set x.below i x.q; range = set x.range i r; at = x.at; q = suc x.q * r - 1 })
        (record { word = set x.word i (step_on x.at); below = set x.below i 0; range = set x.range i r; at = step_on x.at; q = r - 1 })

    pub placed-in : leb (suc x.q * r) LIMIT ≡ true → (p : ℕ) → suc p ≡ suc x.q * r → record { word = set x.word i x.at; below = set x.below i x.q; range = set x.range i r; at = x.at; q = p } ≡ placed_of x r i
    unfolding placed_of
    placed-in b p f =
        let g : p ≡ suc x.q * r - 1 = omega (arith, f) in
        ap (λ (p : ℕ). record { word = set x.word i x.at; below = set x.below i x.q; range = set x.range i r; at = x.at; q = p }) g ∙ ap ways (sym b)

    pub placed-out : leb (suc x.q * r) LIMIT ≡ false → (n : ℕ) → n ≡ step_on x.at → record { word = set x.word i n; below = set x.below i 0; range = set x.range i r; at = n; q = r - 1 } ≡ placed_of x r i
    unfolding placed_of
    placed-out b n e = ap (λ (n : ℕ). record { word = set x.word i n; below = set x.below i 0; range = set x.range i r; at = n; q = r - 1 }) e ∙ ap ways (sym b)

  module _ (t : Trace) (τ : ℕ) where
    pub looked-placed : (i : ℕ) → So (reader t τ i) → placed_of x (range_of t i) i ≡ placed_at t τ x i
    unfolding placed_at
    looked-placed i s = ap (λ (b : Bool). cond b (placed_of x (range_of t i) i) x) (sym s)

    pub looked-left : (i : ℕ) → reader t τ i ≡ false → x ≡ placed_at t τ x i
    unfolding placed_at
    looked-left i s = ap (λ (b : Bool). cond b (placed_of x (range_of t i) i) x) (sym s)

    pub from_on : (n i : ℕ) → i < n → placed_from t τ (placed_at t τ x i) (i + 1) (n - (i + 1)) ≡ placed_from t τ x i (n - i)
    unfolding placed_from
    from_on n i h = let e : n - i ≡ suc (n - (i + 1)) = omega arith in sym (ap (placed_from t τ x i) e ∙ (rw add-one refl))

    pub from-over : (n i : ℕ) → n ≤ i → placed_from t τ x i (n - i) ≡ x
    unfolding placed_from
    from-over n i h = let e : n - i ≡ 0 = omega arith in ap (placed_from t τ x i) e

    pub thread-placed : So (any t.len (reader t τ)) → (y : Places) (n : ℕ) → y ≡ placed_from t τ x 0 t.len → n ≡ step_on y.at → record { word = y.word; below = y.below; range = y.range; at = n; q = 0 } ≡ placed_thread t τ x
    unfolding placed_thread past_thread
    thread-placed s y n e f =
        ap (λ (n : ℕ). record { word = y.word; below = y.below; range = y.range; at = n; q = 0 }) f
        ∙ ap (λ (y : Places). record { word = y.word; below = y.below; range = y.range; at = step_on y.at; q = 0 }) e
        ∙ ap (λ (b : Bool). cond b (past_thread (placed_from t τ x 0 t.len)) x) (sym s)

    pub thread-left : any t.len (reader t τ) ≡ false → x ≡ placed_thread t τ x
    unfolding placed_thread
    thread-left s = ap (λ (b : Bool). cond b (past_thread (placed_from t τ x 0 t.len)) x) (sym s)

  module _ (t : Trace) where
    pub all-on : (n τ : ℕ) → τ < n → placed_all t (placed_thread t τ x) (τ + 1) (n - (τ + 1)) ≡ placed_all t x τ (n - τ)
    unfolding placed_all
    all-on n τ h = let e : n - τ ≡ suc (n - (τ + 1)) = omega arith in sym (ap (placed_all t x τ) e ∙ (rw add-one refl))

    pub all-over : (n τ : ℕ) → n ≤ τ → placed_all t x τ (n - τ) ≡ x
    unfolding placed_all
    all-over n τ h = let e : n - τ ≡ 0 = omega arith in ap (placed_all t x τ) e
