-- The class of a byte, by one test that antt computes over all bytes.
--
--   code k            == a number for each class, so that classes can be compared
--   single b          == b is one of the bytes that the match names singly
--   test lo hi k b    == if b is from lo to before hi, and none of those, its class is k
--   between           == what the test says of a byte
--   not-single        == what the match's default knows
--   is_digit_class k  == k is the class of digits
--   digit-class       == that class is given exactly to digits
use mathlib.Core.Path.{◌≡◌, refl, sym, ap, ◌∙◌}
use mathlib.Core.Logic.{◌⊎◌, inl, inr}
use mathlib.Core.Bool.{Bool, true, false, ◌&&◌, ◌||◌, not, So, cond}
use Prim.Native.Nat.{ℕ, zero, suc, ◌<◌, ◌≤◌}
use lib.Dec.{eqb, leb, ltb}
use Rattle.laws.specs.Tests.{◌⇒◌, all}
use Rattle.laws.proofs.Tests.{and-iff, or-iff, not_iff, same-iff, imp-iff, so-all, so-eq, so-le, so-lt}
use Rattle.text.specs.Class.{class_of, within, is_mark}
use Rattle.text.specs.Number.{is_digit}
use Rattle.text.specs.declared.Class.{Class}
use Rattle.text.specs.declared.Class.TheVariants.{Digit, Space, Mark, Letter, Other}

unfoldable pub code : Class → ℕ
code Digit = 0
code Space = 1
code Mark = 2
code Letter = 3
code Other = 4

decode : ℕ → Class
decode zero = Digit
decode (suc zero) = Space
decode (suc (suc zero)) = Mark
decode (suc (suc (suc zero))) = Letter
decode (suc (suc (suc (suc n)))) = Other

back : (k : Class) → decode (code k) ≡ k
unfolding code decode
back Digit = refl
back Space = refl
back Mark = refl
back Letter = refl
back Other = refl

same_code : (a b : Class) → code a ≡ code b → a ≡ b
same_code a b e = sym (back a) ∙ ap decode e ∙ back b

abbrev pub single : ℕ → Bool
single b = eqb b 32 || (eqb b 61 || (eqb b 91 || (eqb b 93 || (eqb b 123 || eqb b 125))))

unfoldable pub test : ℕ → ℕ → Class → ℕ → Bool
test lo hi k b = (leb lo b && ltb b hi && not (single b)) ⇒ eqb (code k) (code (class_of b))

pub between : (lo hi : ℕ) (k : Class) → So (all 256 (test lo hi k)) → (b : ℕ) → b < 256 → lo ≤ b → b < hi → So (not (single b)) → k ≡ class_of b
unfolding test
between lo hi k t b h l u s =
    same_code k (class_of b)
    ((imp-iff so-eq).0 ((so-all 256 (test lo hi k)).0 t b h) ((and-iff (and-iff so-le so-lt) same-iff).1 ((l, u), s)))

pub not-single : (b : ℕ) → (b ≡ 32 → ⊥) → ((b ≡ 61) ⊎ ((b ≡ 91) ⊎ ((b ≡ 93) ⊎ ((b ≡ 123) ⊎ (b ≡ 125)))) → ⊥) → So (not (single b))
not-single b s k =
    (not_iff (or-iff (so-eq {m = b} {n = 32}) (or-iff (so-eq {m = b} {n = 61}) (or-iff (so-eq {m = b} {n = 91}) (or-iff (so-eq {m = b} {n = 93}) (or-iff (so-eq {m = b} {n = 123}) (so-eq {m = b} {n = 125}))))))).1
    (λ w. elim w [ inl e ↦ s e | inr e ↦ k e ])

-- the class is Digit where the byte is a digit, and nowhere else
abbrev pub is_digit_class : Class → Bool
is_digit_class Digit = true
is_digit_class Space = false
is_digit_class Mark = false
is_digit_class Letter = false
is_digit_class Other = false

other-class : (a b c : Bool) → is_digit_class (cond a Space (cond b Mark (cond c Letter Other))) ≡ false
other-class true b c = refl
other-class false true c = refl
other-class false false true = refl
other-class false false false = refl

pub digit-class : (b : ℕ) → is_digit_class (class_of b) ≡ is_digit b
unfolding class_of
digit-class b = go (is_digit b) refl
  where
    go : (t : Bool) → is_digit b ≡ t → is_digit_class (cond (is_digit b) Digit (cond (eqb b 32) Space (cond (is_mark b) Mark (cond (within 97 122 b || within 65 90 b) Letter Other)))) ≡ is_digit b
    go true e = rw e
    go false e = rw e (other-class (eqb b 32) (is_mark b) (within 97 122 b || within 65 90 b))
