-- Decimal numbers: `decimal` writes each number in the one way that `digits` and `is_number` take.
--
--   value-snoc              == one digit more behind
--   decimal-few, decimal-many == a number of one digit, and of more: its last digit behind the others
--   decimal-value           == what `decimal` writes has the value written
--   digits_decimal          == what follows takes no digit away
--   decimal-digits          == all of it are digits
--   decimal-number          == it is a number
--   digits-split            == a text is its digits and the rest
--   number-only, digits-only == nothing else is a number
--   digits-count            == a byte that is no digit stands in no digits
--   decimal-length          == a number below 10 ^ k has at most k digits
use mathlib.Core.Path.{◌≡◌, refl, sym, ap, ◌∙◌}
use mathlib.Core.Logic.{◌≢◌, ◌↔◌, inl, inr}
use mathlib.Core.Bool.{true, false, So, false≢true}
use mathlib.Core.List.{List, [], ◌∷◌, ◌++◌, append_assoc, append-nil}
use Prim.Native.Nat.{ℕ, zero, suc, ◌+◌, ◌*◌, ◌-◌, ◌/◌, ◌%◌, ◌^◌, ◌≤◌, ◌<◌}
use native.Mathlib.Nat.{pow-suc}
use native.Mathlib.Decide.{dec_lt}
use native.Mathlib.Omega.{arith}
use lib.Dec.{eqb}
use lib.ListN.{length, drop, length-append}
use borrow.Author.Tests.{lt-ltb, le-ltb, ne_eqb, eqb-false}
use Rattle.laws.specs.Places.{count}
use Rattle.laws.proofs.Tests.{and-iff, so-le, test}
use Rattle.text.specs.Number.{is_digit, digits, value, is_number, decimal_by, decimal}

pub value-snoc : (a : ℕ) (ds : List ℕ) (d : ℕ) → value a (ds ++ (d ∷ [])) ≡ value a ds * 10 + (d - 48)
unfolding value
value-snoc a [] d = refl
value-snoc a (e ∷ ds) d = value-snoc (a * 10 + (e - 48)) ds d

-- the two cases of what is written
few : (k n : ℕ) → n < 10 → decimal_by k n ≡ (48 + n) ∷ []
unfolding decimal_by
few zero n h = refl
few (suc k) n h = rw (decimal_by, lt-ltb n 10 h)

many : (k n : ℕ) → 10 ≤ n → decimal_by (suc k) n ≡ decimal_by k (n / 10) ++ ((48 + n % 10) ∷ [])
unfolding decimal_by
many k n h = rw (decimal_by, le-ltb n 10 h)

-- how far the fuel goes beyond the number does not matter
fuel : (k m n : ℕ) → n ≤ k → n ≤ m → decimal_by k n ≡ decimal_by m n
fuel zero m n p q = few zero n (omega arith) ∙ sym (few m n (omega arith))
fuel (suc k) zero n p q = few (suc k) n (omega arith) ∙ sym (few zero n (omega arith))
fuel (suc k) (suc m) n p q = elim (dec_lt n 10) [
  | yes h ↦ few (suc k) n h ∙ sym (few (suc m) n h)
  | no h ↦ many k n (omega arith) ∙ ap (λ ds. ds ++ ((48 + n % 10) ∷ [])) (fuel k m (n / 10) (omega arith) (omega arith)) ∙ sym (many m n (omega arith))
]

pub decimal-few : (n : ℕ) → n < 10 → decimal n ≡ (48 + n) ∷ []
decimal-few n h = few n n h

pub decimal-many : (n : ℕ) → 10 ≤ n → decimal n ≡ decimal (n / 10) ++ ((48 + n % 10) ∷ [])
decimal-many n h = fuel n (suc n) n (omega arith) (omega arith) ∙ many n n h ∙ ap (λ ds. ds ++ ((48 + n % 10) ∷ [])) (fuel n (n / 10) (n / 10) (omega arith) (omega arith))

by_value : (k n : ℕ) → n ≤ k → value 0 (decimal_by k n) ≡ n
unfolding value
by_value zero n h = rw (few zero n (omega arith)) (omega arith)
by_value (suc k) n h = elim (dec_lt n 10) [
  | yes l ↦ rw (few (suc k) n l) (omega arith)
  | no l ↦ rw (many k n (omega arith), value-snoc 0 (decimal_by k (n / 10)) (48 + n % 10)) (omega (arith, by_value k (n / 10) (omega arith)))
]

pub decimal-value : (n : ℕ) → value 0 (decimal n) ≡ n
decimal-value n = by_value n n (omega arith)

-- ---- digits
pub digit-iff : {b : ℕ} → So (is_digit b) ↔ ((48 ≤ b) × (b ≤ 57))
digit-iff = and-iff so-le so-le

digit : (d : ℕ) → d < 10 → So (is_digit (48 + d))
digit d h = (digit-iff {b = 48 + d}).1 (omega arith, omega arith)

digits-on : (b : ℕ) (bs : List ℕ) → is_digit b ≡ true → digits (b ∷ bs) ≡ b ∷ digits bs
unfolding digits
digits-on b bs e = rw e

digits-off : (b : ℕ) (bs : List ℕ) → is_digit b ≡ false → digits (b ∷ bs) ≡ []
unfolding digits
digits-off b bs e = rw e

by_digits : (k n : ℕ) → n ≤ k → (rest : List ℕ) → digits (decimal_by k n ++ rest) ≡ decimal_by k n ++ digits rest
by_digits zero n h rest = rw (few zero n (omega arith)) (digits-on (48 + n) rest (digit n (omega arith)))
by_digits (suc k) n h rest = elim (dec_lt n 10) [
  | yes l ↦ rw (few (suc k) n l) (digits-on (48 + n) rest (digit n l))
  | no l ↦
      rw (many k n (omega arith))
      (simp append_assoc
      (by_digits k (n / 10) (omega arith) ((48 + n % 10) ∷ rest) ∙ ap (λ ds. decimal_by k (n / 10) ++ ds) (digits-on (48 + n % 10) rest (digit (n % 10) (omega arith)))))
]

pub digits_decimal : (n : ℕ) (rest : List ℕ) → digits rest ≡ [] → digits (decimal n ++ rest) ≡ decimal n
digits_decimal n rest e = by_digits n n (omega arith) rest ∙ ap (λ ds. decimal n ++ ds) e ∙ append-nil (decimal n)

pub decimal-digits : (n : ℕ) → digits (decimal n) ≡ decimal n
unfolding digits
decimal-digits n = rw append-nil at (digits_decimal n [] refl)

-- ---- numbers
lead : (k n : ℕ) → n ≤ k → 0 < n → (d : ℕ) × (ds : List ℕ) × (decimal_by k n ≡ d ∷ ds) × (d ≢ 48)
lead zero n h p = absurd (omega arith)
lead (suc k) n h p = elim (dec_lt n 10) [
  | yes l ↦ (48 + n, [], few (suc k) n l, omega arith)
  | no l ↦ let r = lead k (n / 10) (omega arith) (omega arith) in (r.0, r.1 ++ ((48 + n % 10) ∷ []), rw (many k n (omega arith), r.2), r.3)
]

leads : (d : ℕ) (ds : List ℕ) → d ≢ 48 → is_number (d ∷ ds) ≡ true
unfolding is_number
leads d [] h = refl
leads d (e ∷ ds) h = rw (ne_eqb d 48 h)

pub decimal-number : (n : ℕ) → is_number (decimal n) ≡ true
unfolding is_number
decimal-number n = elim (dec_lt n 10) [
  | yes l ↦ rw (few n n l)
  | no l ↦ let r = lead n n (omega arith) (omega arith) in rw r.2 (leads r.0 r.1 r.3)
]

-- a digit behind a number
decimal-snoc : (a d : ℕ) → 0 < a → So (is_digit d) → decimal (a * 10 + (d - 48)) ≡ decimal a ++ (d ∷ [])
decimal-snoc a d h t =
    let b = (digit-iff {b = d}).0 t in
    let n = a * 10 + (d - 48) in
    let front : n / 10 ≡ a = omega arith in
    let back : 48 + n % 10 ≡ d = omega arith in
    fuel n (suc n) n (omega arith) (omega arith) ∙ many n n (omega arith) ∙ rw (front, back) (ap (λ ds. ds ++ (d ∷ [])) (fuel n a a (omega arith) (omega arith)))

digits-parts : (d : ℕ) (ds : List ℕ) → digits (d ∷ ds) ≡ d ∷ ds → So (is_digit d) × (digits ds ≡ ds)
digits-parts d ds e = elim (test (is_digit d)) [
  | inl t ↦ (t, let f = digits-on d ds t in (cc))
  | inr t ↦ let f = digits-off d ds t in let z : ◌≡◌ {A = ℕ} 0 1 = (cc) in absurd (omega arith)
]

decimal-on : (ds : List ℕ) → digits ds ≡ ds → (a : ℕ) → 0 < a → decimal (value a ds) ≡ decimal a ++ ds
unfolding value
decimal-on [] e a h = sym (append-nil (decimal a))
decimal-on (d ∷ ds) e a h =
    let p = digits-parts d ds e in
    decimal-on ds p.1 (a * 10 + (d - 48)) (omega arith) ∙ rw (decimal-snoc a d h p.0) (append_assoc (decimal a) (d ∷ []) ds)

alone : (d : ℕ) → So (is_digit d) → decimal (0 * 10 + (d - 48)) ≡ d ∷ []
alone d t =
    let b = (digit-iff {b = d}).0 t in
    few (0 * 10 + (d - 48)) (0 * 10 + (d - 48)) (omega arith) ∙ ap (λ c. c ∷ []) (let q : 48 + (0 * 10 + (d - 48)) ≡ d = omega arith in q)

-- digits that are a number are written by their value
pub number-only : (ds : List ℕ) → digits ds ≡ ds → is_number ds ≡ true → ds ≡ decimal (value 0 ds)
unfolding value is_number
number-only [] e t = absurd (false≢true t)
number-only (d ∷ []) e t = sym (alone d (digits-parts d [] e).0)
number-only (d ∷ f ∷ ds) e t =
    let p = digits-parts d (f ∷ ds) e in
    let b = (digit-iff {b = d}).0 p.0 in
    elim (test (eqb d 48)) [
      | inl s ↦ absurd (false≢true (rw s at t))
      | inr s ↦ let n = eqb-false d 48 s in sym (decimal-on (f ∷ ds) p.1 (0 * 10 + (d - 48)) (omega arith) ∙ rw (alone d p.0))
    ]

digits-again : (text : List ℕ) → digits (digits text) ≡ digits text
unfolding digits
digits-again [] = refl
digits-again (b ∷ bs) = elim (test (is_digit b)) [
  | inl t ↦ rw (digits-on b bs t) (digits-on b (digits bs) t ∙ ap (λ ds. b ∷ ds) (digits-again bs))
  | inr t ↦ rw (digits-off b bs t)
]

pub digits-only : (text : List ℕ) → is_number (digits text) ≡ true → digits text ≡ decimal (value 0 (digits text))
digits-only text t = number-only (digits text) (digits-again text) t

pub digits-split : (text : List ℕ) → text ≡ digits text ++ drop (length (digits text)) text
unfolding digits
digits-split [] = refl
digits-split (b ∷ bs) = elim (test (is_digit b)) [
  | inl t ↦ rw t (ap (λ cs. b ∷ cs) (digits-split bs))
  | inr t ↦ rw t
]

pub digits-count : (b : ℕ) → is_digit b ≡ false → (ds : List ℕ) → digits ds ≡ ds → count b ds ≡ 0
unfolding count
digits-count b h [] e = refl
digits-count b h (d ∷ ds) e =
    let p = digits-parts d ds e in
    rw (ne_eqb b d (λ q. false≢true (sym h ∙ rw q p.0))) (digits-count b h ds p.1)

-- ---- length
by_length : (k m n : ℕ) → n ≤ m → n < 10 ^ suc k → length (decimal_by m n) ≤ suc k
by_length zero m n h l = rw (few m n (omega arith)) (omega arith)
by_length (suc k) zero n h l = rw (few zero n (omega arith)) (omega arith)
by_length (suc k) (suc m) n h l = elim (dec_lt n 10) [
  | yes s ↦ rw (few (suc m) n s) (omega arith)
  | no s ↦ rw (many m n (omega arith), length-append) (omega (arith, by_length k m (n / 10) (omega arith) (omega (arith, pow-suc 10 (suc k)))))
]

pub decimal-length : (k n : ℕ) → 0 < k → n < 10 ^ k → length (decimal n) ≤ k
decimal-length zero n h l = absurd (omega arith)
decimal-length (suc k) n h l = by_length k n n (omega arith) l
