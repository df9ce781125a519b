-- Tests over numbers.
--
--   a ⇒ b     == where a passes, b passes
--   all n p   == every number below n passes p
--   any n p   == some number below n passes p
use Rattle.std.specs.Prelude.{Bool, true, false, ℕ, zero, suc}

infixr 25 ◌⇒◌
abbrev pub ◌⇒◌ : Bool → Bool → Bool
true ⇒ b = b
false ⇒ b = true

unfoldable pub all : ℕ → (ℕ → Bool) → Bool
all zero p = true
all (suc n) p = elim (p n) [ true ↦ all n p | false ↦ false ]

unfoldable pub any : ℕ → (ℕ → Bool) → Bool
any zero p = false
any (suc n) p = elim (p n) [ true ↦ true | false ↦ any n p ]
