-- `desk::growing::taken`: what is turned back, and the longer session laid down.
use mathlib.Core.Path.{◌≡◌, sym, ap, ◌∙◌, subst}
use Rattle.text.specs.Room.{put_at}
use Rattle.session.specs.Closings.{Closings}
use Rattle.session.specs.Entries.{add_of}
use Rattle.session.specs.Numbers.{adds}
use Rattle.session.specs.declared.Reply.{Reply}
use Rattle.session.proofs.Forcing.{closings-some}
use Rattle.session.proofs.Lasting.{act-intact}
use Rattle.desk.specs.SessionHead.{Fit, session_bytes}
use Rattle.desk.specs.SessionCalls.{code_of}
use Rattle.desk.proofs.HeadBytes.{intact-fit}
use Rattle.desk.proofs.Grown.{taken_not, taken-done}
use Rattle.desk.proofs.growing.taken.Goals.{After-code-number}
use Rattle.desk.proofs.growing.taken.Goals as goal

-- the answer in numbers
told : (C : Closings) (c : After-code-number) → let a = c.args in c.code-number.result ≡ code_of (add_of C a.s a.op).answer
told C c = c.code-number.ensures ∙ ap (λ (r : Reply). code_of r.answer) (c.add-reply.ensures C)

pub returns-then-number-ne0 : goal.returns-then-number-ne0
returns-then-number-ne0 c = λ C.
    let a = c.args in
    taken_not C a.s a.op a.session.now _ (told C (goal.at.returns-then-number-ne0 c).After-code-number) c.if-number-ne0.true

pub placed-requires : goal.placed-requires
placed-requires c =
    let C = closings-some in
    subst (λ (r : Reply). Fit r.session) (sym (c.add-reply.ensures C)) (intact-fit C _ (act-intact C c.args.s (c.requires C) (adds c.args.op)))

pub returns : goal.returns
returns c = λ C.
    let a = c.args in
    taken-done C a.s a.op a.session.now _ (told C (goal.at.returns c).After-code-number) c.if-number-ne0.false _
    (c.placed.ensures.1 ∙ ap (λ (r : Reply). put_at (session_bytes r.session) a.session.now 0) (c.add-reply.ensures C))
