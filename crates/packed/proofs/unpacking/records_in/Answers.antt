-- `packed::unpacking::records_in`: what is left of the records, behind the trace so far, is what all of them come to.
use mathlib.Core.Path.{◌≡◌, sym, ap, ◌∙◌}
use Prim.Native.Nat.{◌≤◌}
use native.Mathlib.Omega.{arith}
use borrow.Author.Tests.{le-ltb}
use Rattle.trace.specs.Bounds.{RECORDS}
use Rattle.trace.specs.Trace.{pushed}
use Rattle.trace.specs.declared.Trace.{Trace}
use Rattle.trace.proofs.Places.{pushed_room}
use Rattle.packed.proofs.Steps.{record-taken, record-back, record-over}
use Rattle.packed.proofs.unpacking.records_in.Goals.{Joined-n-lt-RECORDS, else-n-lt-RECORDS, then-n-lt-RECORDS}
use Rattle.packed.proofs.unpacking.records_in.Goals as goal

pub returns-in-Err : goal.returns-in-Err
returns-in-Err c =
    let a = c.args in
    c.back.ensures ∙ sym (record-back c.loop-i.trace a.bytes.now a.from a.count c.loop-i.i (omega arith) c.in-Err.reason (sym c.turned.ensures ∙ c.in-Err.is)) ∙ c.loop-i.invariant.2

-- the trace with the record behind it
grown : (c : Joined-n-lt-RECORDS) → c.if-n-lt-RECORDS.trace ≡ pushed c.loop-i.trace c.in-Ok.op
unfolding pushed
grown c =
    (elim c.if-n-lt-RECORDS.branch [ then-n-lt-RECORDS w ↦ w.trace-is ∙ sym (pushed_room c.loop-i.trace c.in-Ok.op w.if-n-lt-RECORDS.true) | else-n-lt-RECORDS w ↦ w.trace-is ∙ simp (le-ltb c.loop-i.trace.len RECORDS w.if-n-lt-RECORDS.false) ])

-- it keeps its bound
fits : (c : Joined-n-lt-RECORDS) → c.if-n-lt-RECORDS.trace.len ≤ RECORDS
fits c =
    (elim c.if-n-lt-RECORDS.branch [ then-n-lt-RECORDS w ↦ omega (arith, ap (λ (t : Trace). t.len) w.trace-is, w.if-n-lt-RECORDS.true) | else-n-lt-RECORDS w ↦ omega (arith, ap (λ (t : Trace). t.len) w.trace-is, c.loop-i.invariant.1) ])

pub loop-i-preserved : goal.loop-i-preserved
loop-i-preserved c =
    let a = c.args in (
      omega arith,
      fits c,
      rw (grown c) (sym (record-taken c.loop-i.trace a.bytes.now a.from a.count c.loop-i.i (omega arith) c.in-Ok.op (sym c.turned.ensures ∙ c.in-Ok.is)) ∙ c.loop-i.invariant.2),
    )

pub returns : goal.returns
returns c =
    let a = c.args in
    sym (record-over c.loop-i.trace a.bytes.now a.from a.count c.loop-i.i (omega arith)) ∙ c.loop-i.invariant.2
