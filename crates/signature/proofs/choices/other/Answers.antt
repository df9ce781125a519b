-- `signature::choices::other`: by what it calls.
use mathlib.Core.Path.{ap₂}
use mathlib.Core.Bool.{Bool, not, ◌&&◌}
use Prim.Native.Nat.{ℕ}
use lib.Dec.{eqb}
use Rattle.signature.proofs.choices.other.Goals as goal

pub returns : goal.returns
returns c = ap₂ (λ (x : Bool) (a : ℕ). x && eqb a c.args.addr && not c.args.own) c.writes.ensures c.address.ensures
