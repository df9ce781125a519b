-- `desk::heads::two`: the lower byte, and the upper one as often as a byte has numbers.
use Prim.Native.Nat.{◌+◌, ◌<◌}
use native.Mathlib.Omega.{arith}
use lib.ListN.{get_or}
use Rattle.packed.specs.Layout.{BYTE}
use Rattle.desk.specs.SessionBytes.{two_bytes_in}
use Rattle.desk.proofs.heads.two.Goals.{After-wide-high}
use Rattle.desk.proofs.heads.two.Goals as goal

-- both are bytes
low_byte : (c : After-wide-high) → let a = c.args in get_or a.bytes.now a.at 0 < BYTE
low_byte c = omega (arith, c.type_inv.bytes c.args.at)

high_byte : (c : After-wide-high) → let a = c.args in get_or a.bytes.now (a.at + 1) 0 < BYTE
high_byte c = omega (arith, c.type_inv.bytes (c.args.at + 1))

pub overflow_mul-result : goal.overflow_mul-result
overflow_mul-result c = omega (arith, c.wide-high.ensures, high_byte c)

pub overflow_add-result : goal.overflow_add-result
overflow_add-result c = omega (arith, c.wide-low.ensures, low_byte c, c.wide-high.ensures, high_byte c)

pub returns : goal.returns
unfolding two_bytes_in
returns c = cc
