-- `desk::heads::stack_in`: the pairs below i are read.
use mathlib.Core.Path.{◌≡◌, refl, ap₂, ◌∙◌}
use mathlib.Core.List.{List, append-nil}
use Prim.Native.Nat.{ℕ}
use native.Mathlib.Omega.{arith}
use lib.ListN.{set, replicate}
use Rattle.laws.specs.ListOf.{row}
use Rattle.laws.proofs.Rows.{row_more}
use Rattle.session.specs.Bounds.{PAIRS}
use Rattle.session.specs.Stack.{unused}
use Rattle.session.specs.declared.Pair.{Pair}
use Rattle.desk.specs.SessionBytes.{pair_in, stack_in}
use Rattle.desk.proofs.heads.stack_in.Goals as goal

pub loop-i-init : goal.loop-i-init
unfolding row
loop-i-init c = (omega arith, refl)

pub loop-i-preserved : goal.loop-i-preserved
unfolding pair_in
loop-i-preserved c =
    let b = c.args.bytes.now in (
      omega arith,
      ap₂ (λ (ps : List Pair) (p : Pair). set ps c.loop-i.i p) c.loop-i.invariant.1 (ap₂ (λ (x y : ℕ). record { first = x; second = y }) c.two.ensures c.two-in-loop-i.ensures)
          ∙ row_more (pair_in b) (replicate PAIRS unused) c.loop-i.i (omega arith),
    )

pub returns : goal.returns
unfolding stack_in
returns c =
    let b = c.args.bytes.now in
    let e : c.loop-i.i ≡ PAIRS = omega arith in
    ap₂ (λ (ps : List Pair) (n : ℕ). record { pairs = ps; count = n }) ((rw e at c.loop-i.invariant.1) ∙ append-nil (row (pair_in b) 0 PAIRS)) c.wide-count.ensures
