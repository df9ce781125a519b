-- `desk::growing::wheelotter_add`: what stands before the last eight bytes, then whether what was given is a record, then what the session says to it.
use mathlib.Core.Path.{sym, ap, ◌∙◌, subst}
use Prim.Native.Nat.{◌-◌}
use native.Mathlib.Omega.{arith}
use lib.ListN.{length}
use lib.Seq.{length-take-le}
use borrow.Author.Tests.{not-true, not-false}
use Rattle.packed.specs.Layout.{RECORD}
use Rattle.session.specs.Session.{Intact}
use Rattle.session.specs.declared.Session.{Session}
use Rattle.desk.specs.Grown.{shorter, add_answer, add_bytes}
use Rattle.desk.proofs.Keeping.{named-intact}
use Rattle.desk.proofs.Acting.{lent-like, lent-session}
use Rattle.desk.proofs.Grown.{shorter-none, add-unlike, add_none, add-of}
use Rattle.desk.proofs.growing.wheelotter_add.Goals as goal

pub returns-then-n-lt-RECORD : goal.returns-then-n-lt-RECORD
returns-then-n-lt-RECORD c = λ C. let b = c.args.session.now in add-unlike C b (shorter-none C b c.if-n-lt-RECORD.true) _

pub slice_bounds-kept-length : goal.slice_bounds-kept-length
slice_bounds-kept-length c = let b = c.args.session.now in sym (length-take-le (length b - RECORD) b (omega arith))

pub returns-then-not-found : goal.returns-then-not-found
returns-then-not-found c = λ C. add-unlike C c.args.session.now (sym (lent-like C _ _ (c.kept-found.ensures C)) ∙ not-true _ c.if-not-found.true) _

pub taken-requires : goal.taken-requires
taken-requires c = λ C.
    subst (λ (s : Session). Intact C s) (sym (lent-session C _ _ (c.kept-found.ensures C) (not-false _ c.if-not-found.false))) (named-intact C (shorter c.args.session.now))

pub returns-in-Some : goal.returns-in-Some
returns-in-Some c = λ C.
    let b = c.args.session.now in
    let on = not-false _ c.if-not-found.false in
    let r = add-of C b (sym (lent-like C _ _ (c.kept-found.ensures C)) ∙ on) _ _ (lent-session C _ _ (c.kept-found.ensures C) on) _ _ (c.taken.ensures C) in
    let same = c.in-Some.is in
    (r.0 ∙ ap (add_answer C b) (sym same ∙ c.op_in.ensures), r.1 ∙ ap (add_bytes C b) (sym same ∙ c.op_in.ensures))

pub returns-in-None : goal.returns-in-None
returns-in-None c = λ C.
    let b = c.args.session.now in
    let r = add_none C b (sym (lent-like C _ _ (c.kept-found.ensures C)) ∙ not-false _ c.if-not-found.false) in
    let same = c.in-None.is in
    (r.0 ∙ ap (add_answer C b) (sym same ∙ c.op_in.ensures), r.1 ∙ ap (add_bytes C b) (sym same ∙ c.op_in.ensures))
