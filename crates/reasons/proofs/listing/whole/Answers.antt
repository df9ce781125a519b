-- `listing::whole`: the list for the empty branch.
use mathlib.Core.Path.{refl}
use Prim.Native.Nat.{ℕ, ◌+◌, ◌*◌, ◌≤◌}
use native.Mathlib.Nat.{mul-le-mul}
use native.Mathlib.Omega.{arith}
use lib.ListN.{replicate}
use Rattle.trace.specs.Bounds.{RECORDS}
use Rattle.trace.proofs.WellFormed.{form-iff}
use Rattle.papers.specs.Paper.{BRANCH}
use Rattle.reasons.proofs.Answers.{whole-joins, whole-closes, whole-laid}
use Rattle.reasons.proofs.listing.whole.Goals as goal

pub overflow_mul-n : goal.overflow_mul-n
overflow_mul-n c =
    let q : c.args.t.len ≤ RECORDS = ((form-iff c.args.t).0 c.requires.0).fits in
    let r : c.args.t.len * c.args.t.len ≤ RECORDS * RECORDS = mul-le-mul q q in
    omega (arith, r)

pub overflow_add-n : goal.overflow_add-n
overflow_add-n c =
    let q : c.args.t.len ≤ RECORDS = ((form-iff c.args.t).0 c.requires.0).fits in
    let r : c.args.t.len * c.args.t.len ≤ RECORDS * RECORDS = mul-le-mul q q in
    omega (arith, r)

pub paper-requires : goal.paper-requires
paper-requires c =
    let a = c.args in
    let zeros = replicate {A = ℕ} BRANCH 0 in record { lengths = (c.requires.0, c.requires.1, c.note_read.ensures, refl, refl, refl, omega arith, omega arith); closable = (whole-joins a.t c.requires.0 a.model c.requires.2 c.requires.3 zeros zeros (a.t.len * a.t.len + 1) refl, whole-closes a.t c.requires.0 a.model c.requires.2 c.requires.3 zeros zeros (a.t.len * a.t.len + 1) refl) }

pub returns : goal.returns
returns c =
    let v = c.paper in
    let a = c.args in
    let zeros = replicate {A = ℕ} BRANCH 0 in
    whole-laid a.t c.requires.0 a.model c.requires.2 c.requires.3 zeros zeros (a.t.len * a.t.len + 1) refl a.limit a.out.now v.new.from v.new.to v.new.out v.result v.ensures
