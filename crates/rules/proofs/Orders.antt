-- Where operations stand in a list that has each of them once.
--
--   placed == each has its place
--   apart  == two have two
--   either == of two one is before the other
use mathlib.Core.Path.{ap, ◌∙◌}
use mathlib.Core.Logic.{◌≢◌, ◌⊎◌, inl, inr}
use mathlib.Core.Bool.{cond, So}
use mathlib.Core.List.{List}
use Prim.Native.Nat.{ℕ, ◌<◌}
use native.Mathlib.Decide.{dec_lt}
use native.Mathlib.Omega.{arith}
use lib.ListN.{length}
use Rattle.laws.specs.Places.{pos, Before}
use Rattle.laws.proofs.Places.{pos-lt, pos_inj}
use Rattle.rules.specs.Frame.{Frame}
use Rattle.rules.specs.Order.{Once}

module _ (f : Frame) (xs : List ℕ) (o : Once f xs) where
  pub placed : (x : ℕ) → So (f.operation x) → pos xs x < length xs
  placed x t = pos-lt xs x (omega (arith, o x ∙ ap (λ b. cond b 1 0) t))

  pub apart : (x y : ℕ) → So (f.operation x) → x ≢ y → pos xs x ≢ pos xs y
  apart x y t d e = d (pos_inj xs x y (placed x t) e)

  pub either : {x y : ℕ} → So (f.operation x) → x ≢ y → Before xs x y ⊎ Before xs y x
  either {x} {y} t d = elim (dec_lt (pos xs x) (pos xs y)) [ yes h ↦ inl h | no h ↦ inr (omega (arith, apart x y t d)) ]
