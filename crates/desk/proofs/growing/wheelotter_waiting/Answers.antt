-- `desk::growing::wheelotter_waiting`: no session, no room, then the lowest record without a source.
use mathlib.Core.Path.{◌≡◌, sym, ap, ◌∙◌}
use mathlib.Core.List.{[], ◌∷◌, ◌++◌}
use Prim.Native.Nat.{ℕ, ◌<◌}
use native.Mathlib.Omega.{arith}
use lib.ListN.{drop}
use borrow.Author.Tests.{not-true, not-false}
use Rattle.trace.specs.Bounds.{RECORDS}
use Rattle.session.specs.Closings.{Closings}
use Rattle.session.specs.Entries.{waiting_of}
use Rattle.session.specs.declared.Session.{Session}
use Rattle.session.proofs.Forcing.{closings-some}
use Rattle.desk.specs.VerdictBytes.{wide}
use Rattle.desk.specs.Runs.{PLACE}
use Rattle.desk.specs.SessionBytes.{session_in}
use Rattle.desk.proofs.Hosted.{place-laid}
use Rattle.desk.proofs.Acting.{lent-like, lent-session}
use Rattle.desk.proofs.Grown.{waiting-below, waiting_turned, waiting-short, waiting-done}
use borrow.Author.Rules.{rules}
use Rattle.desk.proofs.growing.wheelotter_waiting.Goals.{After-waiting-reply}
use Rattle.desk.proofs.growing.wheelotter_waiting.Goals as goal

pub returns-then-not-found : goal.returns-then-not-found
returns-then-not-found c = λ C.
    let a = c.args in
    waiting_turned C a.session.now a.out.now (sym (lent-like C _ _ (c.kept-found.ensures C)) ∙ not-true _ c.if-not-found.true)

pub returns-then-out-lt-PLACE : goal.returns-then-out-lt-PLACE
returns-then-out-lt-PLACE c = λ C.
    let a = c.args in
    waiting-short C a.session.now a.out.now (sym (lent-like C _ _ (c.kept-found.ensures C)) ∙ not-false _ c.if-not-found.false) c.if-out-lt-PLACE.true

-- what the session says
said : (C : Closings) (c : After-waiting-reply) → c.waiting-reply.result ≡ waiting_of C (session_in C c.args.session.now)
said C c =
    c.waiting-reply.ensures C ∙ ap (λ (s : Session). waiting_of C s) (lent-session C _ _ (c.kept-found.ensures C) (not-false _ c.if-not-found.false))

pub overflow_cast-record : goal.overflow_cast-record
overflow_cast-record c =
    let a = c.args in
    let small : c.record_in-record.result < RECORDS = rw (c.record_in-record.ensures, said closings-some (goal.at.overflow_cast-record c).After-waiting-reply) (waiting-below closings-some a.session.now a.out.now) in
    search rules

pub returns : goal.returns
returns c = λ C.
    let a = c.args in
    let r = waiting-done C a.session.now a.out.now (sym (lent-like C _ _ (c.kept-found.ensures C)) ∙ not-false _ c.if-not-found.false) (omega (arith, c.if-out-lt-PLACE.false)) c.waiting-reply.result (said C (goal.at.returns c).After-waiting-reply) in (
      c.code.ensures ∙ r.0,
      c.put_wide.ensures
          ∙ place-laid c.record_in-record.result a.out.now (omega (arith, c.if-out-lt-PLACE.false))
          ∙ ap (λ (x : ℕ). wide (x ∷ []) ++ drop PLACE a.out.now) c.record_in-record.ensures
          ∙ r.1,
    )
