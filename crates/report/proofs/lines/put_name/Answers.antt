-- `report::lines::put_name`: by the model's number.
use mathlib.Core.Path.{◌≡◌, sym, ap, refl}
use mathlib.Core.Logic.{◌≢◌}
use mathlib.Core.List.{[]}
use Prim.Native.Nat.{ℕ, zero, suc}
use native.Mathlib.Omega.{arith}
use Rattle.report.specs.Report.{name_of}
use Rattle.report.proofs.Wrote.{wrote_as, wrote_none}
use borrow.Author.Rules.{rules}
use Rattle.report.proofs.lines.put_name.Goals as goal

-- a number that no model has has no name
no_name : (m : ℕ) → m ≢ 1 → m ≢ 2 → m ≢ 3 → m ≢ 4 → name_of m ≡ []
no_name zero a b c d = refl
no_name (suc zero) a b c d = absurd (a refl)
no_name (suc (suc zero)) a b c d = absurd (b refl)
no_name (suc (suc (suc zero))) a b c d = absurd (c refl)
no_name (suc (suc (suc (suc zero)))) a b c d = absurd (d refl)
no_name (suc (suc (suc (suc (suc m))))) a b c d = refl

pub returns-in-1 : goal.returns-in-1
returns-in-1 c = (wrote_as (ap name_of (sym c.in-1.is)) c.put_word.ensures, omega (arith, c.put_word.ensures.ends))

pub returns-in-2 : goal.returns-in-2
returns-in-2 c = (wrote_as (ap name_of (sym c.in-2.is)) c.put_word-in-2.ensures, omega (arith, c.put_word-in-2.ensures.ends))

pub returns-in-3 : goal.returns-in-3
returns-in-3 c = (wrote_as (ap name_of (sym c.in-3.is)) c.put_word-in-3.ensures, omega (arith, c.put_word-in-3.ensures.ends))

pub returns-in-4 : goal.returns-in-4
returns-in-4 c = (wrote_as (ap name_of (sym c.in-4.is)) c.put_word-in-4.ensures, omega (arith, c.put_word-in-4.ensures.ends))

pub returns-in_default : goal.returns-in_default
returns-in_default c =
    (wrote_as (sym (no_name c.args.model (search rules) (search rules) (search rules) (search rules))) (wrote_none c.args.out.now c.args.at), omega arith)
