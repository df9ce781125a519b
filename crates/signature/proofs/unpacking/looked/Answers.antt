-- `signature::unpacking::looked`: only a load or swap of the thread has a place.
use mathlib.Core.Path.{◌≡◌, sym, ap, ◌∙◌}
use Prim.Native.Nat.{ℕ}
use native.Mathlib.Omega.{arith}
use Rattle.signature.specs.Reads.{reader}
use Rattle.signature.specs.inner.WordsLaid.{placed_of}
use Rattle.signature.proofs.Placed.{looked-placed, looked-left}
use Rattle.signature.proofs.Laid.{range-some}
use Rattle.signature.proofs.unpacking.looked.Goals.{After-of_thread}
use Rattle.signature.proofs.unpacking.looked.Goals as goal

-- the code's test is the definition's
told : (c : After-of_thread) → c.of_thread.result ≡ reader c.args.t c.args.core c.args.i
unfolding reader
told c = c.of_thread.ensures

pub placed-requires : goal.placed-requires
placed-requires c = (omega (arith, c.range_of.ensures.0, range-some c.args.t c.args.i), omega (arith, c.requires.0, c.requires.1))

pub returns-then-of_thread : goal.returns-then-of_thread
returns-then-of_thread c =
    c.placed.ensures ∙ ap (λ (n : ℕ). placed_of c.args.x n c.args.i) c.range_of.ensures.0
    ∙ looked-placed c.args.x c.args.t c.args.core c.args.i (sym (told (goal.at.returns-then-of_thread c).After-of_thread) ∙ c.if-of_thread.true)

pub returns : goal.returns
returns c = looked-left c.args.x c.args.t c.args.core c.args.i (sym (told (goal.at.returns c).After-of_thread) ∙ c.if-of_thread.false)
