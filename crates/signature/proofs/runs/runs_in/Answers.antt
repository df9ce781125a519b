-- `signature::runs::runs_in`: a division by 0 gives 0.
use mathlib.Core.Path.{sym, ap, ◌∙◌}
use Prim.Native.Nat.{ℕ, ◌/◌}
use native.Mathlib.Nat.{div-zero}
use Rattle.signature.proofs.runs.runs_in.Goals as goal

pub returns-then-loads-eq0 : goal.returns-then-loads-eq0
returns-then-loads-eq0 c = let a = c.args in sym (ap (λ (n : ℕ). a.reads / n) c.if-loads-eq0.true ∙ div-zero a.reads)
