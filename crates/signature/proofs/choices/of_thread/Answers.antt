-- `signature::choices::of_thread`: by what it calls.
use mathlib.Core.Path.{ap₂}
use mathlib.Core.Bool.{Bool, ◌&&◌}
use Prim.Native.Nat.{ℕ}
use lib.Dec.{eqb}
use Rattle.signature.proofs.choices.of_thread.Goals as goal

pub returns : goal.returns
returns c = ap₂ (λ (x : Bool) (a : ℕ). x && eqb a c.args.core) c.reads.ensures c.thread.ensures
