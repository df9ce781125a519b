-- Dictionary order.
--
--   ≼-antisym  == two lists, neither before the other, are one
--   answer-one == a search has one answer
use mathlib.Core.Path.{◌≡◌, refl, ap, ap₂}
use mathlib.Core.Logic.{inl, inr}
use mathlib.Core.List.{List, [], ◌∷◌}
use mathlib.Core.Option.{Option, none, some}
use Prim.Native.Nat.{ℕ}
use native.Mathlib.Omega.{arith}
use Rattle.laws.specs.Dict.{◌≼◌, Answer}

pub ≼-antisym : (xs ys : List ℕ) → xs ≼ ys → ys ≼ xs → xs ≡ ys
≼-antisym [] [] h k = refl
≼-antisym [] (y ∷ ys) h k = absurd k
≼-antisym (x ∷ xs) [] h k = absurd h
≼-antisym (x ∷ xs) (y ∷ ys) (inl h) (inl k) = absurd (omega arith)
≼-antisym (x ∷ xs) (y ∷ ys) (inl h) (inr k) = absurd (omega (arith, k.0))
≼-antisym (x ∷ xs) (y ∷ ys) (inr h) (inl k) = absurd (omega (arith, h.0))
≼-antisym (x ∷ xs) (y ∷ ys) (inr h) (inr k) = ap₂ ◌∷◌ h.0 (≼-antisym xs ys h.1 k.1)

pub answer-one : (P : List ℕ → Type 0) (p : List ℕ) (a b : Option (List ℕ)) → Answer P p a → Answer P p b → a ≡ b
answer-one P p none none h k = refl
answer-one P p none (some s) h k = absurd (h s k.0)
answer-one P p (some r) none h k = absurd (k r h.0)
answer-one P p (some r) (some s) h k = ap some (≼-antisym r s (h.1 s k.0) (k.1 r h.0))
