-- `report::pieces::put_decimal`: the number falls at each call.
use Rattle.report.proofs.pieces.+put_decimal.Given as goal

abbrev pub decreases-put_decimal : goal.decreases-put_decimal
decreases-put_decimal l = l.n
