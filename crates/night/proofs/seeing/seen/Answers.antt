-- `night::seeing::seen`: the first i records have their reads, k of these are used.
use mathlib.Core.Path.{◌≡◌, sym, ap, ◌∙◌, subst}
use Prim.Native.Nat.{ℕ, ◌+◌, ◌<◌}
use native.Mathlib.Omega.{arith}
use lib.ListN.{length, get_or, set}
use Rattle.trace.specs.Trace.{at}
use Rattle.trace.specs.declared.Op.{Op}
use Rattle.trace.specs.declared.Trace.{Trace}
use Rattle.night.specs.FilledReads.{read_as}
use Rattle.night.proofs.FilledReads.{Filled, filled-start, filled-read, filled-pass, filled-end}
use Rattle.night.proofs.seeing.seen.Goals.{else-reads, then-reads}
use Rattle.night.proofs.seeing.seen.Goals as goal

pub loop-i-init : goal.loop-i-init
loop-i-init c = (omega arith, filled-start c.args.t c.args.reads.now)

pub overflow_add-k : goal.overflow_add-k
overflow_add-k c = omega (arith, c.loop-i.invariant.1.low)

pub loop-i-preserved : goal.loop-i-preserved
loop-i-preserved c =
    let t = c.args.t in
    let vs = c.args.reads.now in
    let i = c.loop-i.i in
    let h : i < length t.records = omega (arith, c.well_formed.0.1.1.0.1.0.1) in
    let e : c.read_as-next.result ≡ read_as (at t i) (get_or vs c.loop-i.k 0) = c.read_as-next.ensures ∙ ap (read_as (at t i)) c.read_at.ensures in
    let next : Op → Trace = λ o. record { records = set c.loop-i.u.records i (record { op = o }); len = c.loop-i.u.len; firsts = c.loop-i.u.firsts } in (
      omega arith,
      subst (λ (o : Op). Filled t vs (next o) c.if-reads.k (i + 1)) (sym e)
          ((elim c.if-reads.branch [ then-reads w ↦ subst (λ (k : ℕ). Filled t vs (next (read_as (at t i) (get_or vs c.loop-i.k 0))) k (i + 1)) (sym w.k-is) (filled-read t vs c.loop-i.u c.loop-i.k i c.loop-i.invariant.1 h (sym c.reads.ensures ∙ w.if-reads.true)) | else-reads w ↦ subst (λ (k : ℕ). Filled t vs (next (read_as (at t i) (get_or vs c.loop-i.k 0))) k (i + 1)) (sym w.k-is) (filled-pass t vs c.loop-i.u c.loop-i.k i c.loop-i.invariant.1 h (sym c.reads.ensures ∙ w.if-reads.false)) ])),
    )

pub returns : goal.returns
returns c = filled-end c.args.t c.args.reads.now c.loop-i.u c.loop-i.k c.loop-i.i c.loop-i.invariant.1 (omega (arith, c.well_formed.0.1.1.0.1.0.1))
