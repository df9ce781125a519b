-- A line that gives a first value keeps the bounds.
--
--   first_good == its address and its value are below theirs
use mathlib.Core.Path.{◌≡◌}
use mathlib.Core.Bool.{Bool, true, false, cond}
use mathlib.Core.List.{List}
use Prim.Native.Nat.{ℕ, ◌<◌}
use native.Mathlib.Omega.{arith}
use lib.Dec.{eqb}
use Rattle.std.specs.Prelude.{Some, None}
use Rattle.trace.specs.Bounds.{ADDRESSES, VALUES}
use Rattle.reader.specs.Answer.{init_given}
use Rattle.reader.specs.LineForms.{init}
use Rattle.reader.proofs.Begins.{begins-good}
use Rattle.talk.specs.LineAnswers.{whole, first_value}
use Rattle.talk.specs.declared.telling.Talk.{Talk}

module _ (k : Talk) (bytes : List ℕ) (a v : ℕ) where
  pub first_good : first_value k bytes ≡ Some (init a v) → (a < ADDRESSES) × (v < VALUES)
  unfolding first_value
  first_good = go (eqb k.session.trace.len 0)
    where
      go : (b : Bool) → cond b (init_given k.given (whole bytes)) None ≡ Some (init a v) → (a < ADDRESSES) × (v < VALUES)
      go true e = let g = begins-good k.given (whole bytes) a v e in (g.address, g.value)
      go false e = let z : ◌≡◌ {A = ℕ} 0 1 = cc in absurd (omega arith)
