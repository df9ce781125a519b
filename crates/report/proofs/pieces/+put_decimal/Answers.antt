-- `report::pieces::put_decimal`: the last digit behind the others. The number falls at each call.
use mathlib.Core.Path.{◌≡◌, ap, ◌∙◌}
use mathlib.Core.List.{[], ◌∷◌}
use Prim.Native.Nat.{ℕ, ◌+◌, ◌/◌, ◌%◌, ◌≤◌}
use native.Mathlib.Omega.{arith}
use lib.ListN.{length, length-append}
use Rattle.text.specs.Number.{decimal}
use Rattle.report.proofs.Wrote.{wrote_then}
use Rattle.text.proofs.Decimal.{decimal-few, decimal-many}
use Rattle.report.proofs.pieces.+put_decimal.Goals as goal

-- with its last digit a number is one longer
longer : (n : ℕ) → 10 ≤ n → length (decimal n) ≡ length (decimal (n / 10)) + 1
longer n h = ap length (decimal-many n h) ∙ length-append (decimal (n / 10)) ((48 + n % 10) ∷ [])

pub put_digit-requires : goal.put_digit-requires
put_digit-requires t c = let l = ap length (decimal-few c.args.n c.if-n-lt10.true) in
    (c.if-n-lt10.true, omega (arith, c.requires))

pub shape_of-out-then-n-lt10 : goal.shape_of-out-then-n-lt10
shape_of-out-then-n-lt10 t c = c.put_digit.ensures.long

pub returns-then-n-lt10 : goal.returns-then-n-lt10
returns-then-n-lt10 t c = rw (decimal-few c.args.n c.if-n-lt10.true) c.put_digit.ensures

pub put_decimal-end-requires : goal.put_decimal-end-requires
put_decimal-end-requires t c = let l = longer c.args.n c.if-n-lt10.false in
    (omega arith, omega (arith, c.requires))

pub put_digit-requires-2 : goal.put_digit-requires-2
put_digit-requires-2 t c = let l = longer c.args.n c.if-n-lt10.false in
    (omega arith, omega (arith, c.requires, c.put_decimal-end.ensures.ends, c.put_decimal-end.ensures.long))

pub shape_of-out : goal.shape_of-out
shape_of-out t c = c.put_digit-2.ensures.long ∙ c.put_decimal-end.ensures.long

pub returns : goal.returns
returns t c = rw (decimal-many c.args.n c.if-n-lt10.false) (wrote_then c.args.out.now c.args.at _ _ _ _ _ _ c.put_decimal-end.ensures c.put_digit-2.ensures)
