-- `desk::heads::pair_byte`: the lower byte of a number at an even place, the upper at an odd one. A record's number fits two bytes.
use mathlib.Core.Path.{sym, ap, ◌∙◌}
use Prim.Native.Nat.{ℕ, ◌/◌, ◌%◌}
use native.Mathlib.Omega.{arith}
use Rattle.packed.specs.Layout.{BYTE}
use Rattle.desk.proofs.HeadBytes.{byte-lower, byte-upper, number-below}
use Rattle.desk.proofs.heads.pair_byte.Goals as goal

pub overflow_cast-result : goal.overflow_cast-result
overflow_cast-result c = omega arith

pub returns-then-i-eq0 : goal.returns-then-i-eq0
returns-then-i-eq0 c = ap (λ (x : ℕ). x % BYTE) c.numbered-n.ensures ∙ sym (byte-lower _ _ c.if-i-eq0.true)

pub overflow_cast-result-2 : goal.overflow_cast-result-2
overflow_cast-result-2 c =
    omega (arith, c.numbered-n.ensures, number-below c.args.s c.requires.0 (c.args.i / 2) (omega arith))

pub returns : goal.returns
returns c = ap (λ (x : ℕ). x / BYTE) c.numbered-n.ensures ∙ sym (byte-upper _ _ c.if-i-eq0.false)
