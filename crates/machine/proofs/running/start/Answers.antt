-- `machine::running::start`: the cells below addr hold their first values.
use mathlib.Core.Path.{◌≡◌, refl, ap, ap₂, ◌∙◌}
use mathlib.Core.List.{List, ◌++◌, append-nil}
use Prim.Native.Nat.{ℕ}
use native.Mathlib.Omega.{arith}
use lib.ListN.{set, drop, replicate}
use Rattle.laws.specs.ListOf.{row}
use Rattle.laws.proofs.Rows.{row_more}
use mathlib.Core.Bool.{false}
use Rattle.machine.proofs.ByCases.{made}
use Rattle.trace.specs.Bounds.{RECORDS, ADDRESSES}
use Rattle.trace.specs.Trace.{first}
use Rattle.machine.specs.Machine.{machine_start}
use Rattle.machine.proofs.running.start.Goals as goal

pub loop-addr-init : goal.loop-addr-init
unfolding row
loop-addr-init c = (omega arith, refl)

pub loop-addr-preserved : goal.loop-addr-preserved
loop-addr-preserved c =
    let l = c.loop-addr in
    (omega arith, ap₂ (λ (o : List ℕ) (v : ℕ). set o l.addr v) l.invariant.1 c.first.ensures ∙ row_more (first c.args.t) (replicate ADDRESSES 0) l.addr (omega arith))

pub returns : goal.returns
unfolding machine_start
returns c =
    let l = c.loop-addr in
    let e : l.addr ≡ ADDRESSES = omega arith in
    ap (λ (s : List ℕ). made (replicate RECORDS false) (replicate RECORDS false) s) (l.invariant.1 ∙ ap (λ (k : ℕ). row (first c.args.t) 0 k ++ drop k (replicate ADDRESSES 0)) e ∙ append-nil _)
