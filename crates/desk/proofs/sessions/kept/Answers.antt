-- `desk::sessions::kept`: each part of the test in turn.
use mathlib.Core.Path.{◌≡◌, sym, ap, ap₂, ◌∙◌, subst}
use mathlib.Core.Bool.{false≢true}
use lib.ListN.{get_or}
use Rattle.laws.proofs.Tests.{off}
use Rattle.trace.specs.declared.Trace.{Trace}
use Rattle.packed.specs.FileRead.{read_file}
use Rattle.packed.specs.declared.Reading.{Reading}
use Rattle.session.specs.Closings.{Closings}
use Rattle.session.specs.Entries.{afresh_of}
use Rattle.session.specs.declared.Stack.{Stack}
use Rattle.session.specs.declared.Reply.{Reply}
use Rattle.desk.specs.File.{file_number_in, file_number}
use Rattle.desk.specs.SessionHead.{Fit, session_head}
use Rattle.desk.specs.SessionBytes.{file_in, made_in}
use Rattle.desk.specs.SessionCalls.{code_of}
use Rattle.session.proofs.Forcing.{closings-some}
use Rattle.desk.proofs.HeadBytes.{intact-fit}
use Rattle.desk.proofs.Keeping.{like-parts, behind, kept-like, kept-unlike, unlike-short, unlike-file, unlike-made, unlike-head, named-intact}
use Rattle.desk.proofs.Acting.{code-done, done-code}
use Rattle.desk.proofs.sessions.kept.Goals.{After-afresh-reply, After-number_in}
use Rattle.desk.proofs.sessions.kept.Goals as goal

-- what the file behind the head reads as
told : (c : After-number_in) → c.number_in.result ≡ file_number (file_in c.args.bytes.now)
told c = c.number_in.ensures ∙ ap (λ (r : Reading). file_number_in r.answer) (c.read-reading.ensures ∙ ap read_file (behind c.args.bytes.now))

-- the session that the bytes name
named : (C : Closings) (c : After-afresh-reply) → c.afresh-reply.result ≡ made_in C c.args.bytes.now
unfolding made_in
named C c =
    c.afresh-reply.ensures C
    ∙ ap₂ (λ (t : Trace) (q : Stack). afresh_of C t (get_or c.args.bytes.now 0 0) q) (ap (λ (x : Reading). x.trace) (c.read-reading.ensures ∙ ap read_file (behind c.args.bytes.now))) c.stack_in.ensures

pub returns-then-bytes-lt-HEAD : goal.returns-then-bytes-lt-HEAD
returns-then-bytes-lt-HEAD c = λ C. let b = c.args.bytes.now in kept-unlike C b (unlike-short C b c.if-bytes-lt-HEAD.true) _ (c.unlike.ensures.0, c.unlike.ensures.1 C)

pub returns-then-number_in-ne0 : goal.returns-then-number_in-ne0
returns-then-number_in-ne0 c = λ C.
    let b = c.args.bytes.now in
    kept-unlike C b (unlike-file C b (λ z. c.if-number_in-ne0.true (told (goal.at.returns-then-number_in-ne0 c).After-number_in ∙ z))) _ (c.unlike-then-number_in-ne0.ensures.0, c.unlike-then-number_in-ne0.ensures.1 C)

pub returns-then-code-ne0 : goal.returns-then-code-ne0
returns-then-code-ne0 c = λ C.
    let b = c.args.bytes.now in
    kept-unlike C b (unlike-made C b (off (λ y. c.if-code-ne0.true (c.code.ensures ∙ ap (λ (r : Reply). code_of r.answer) (named C (goal.at.returns-then-code-ne0 c).After-afresh-reply) ∙ done-code (made_in C b).answer y)))) _ (c.unlike-then-code-ne0.ensures.0, c.unlike-then-code-ne0.ensures.1 C)

pub agrees-requires : goal.agrees-requires
agrees-requires c =
    (subst (λ (r : Reply). Fit r.session) (sym (named closings-some (goal.at.agrees-requires c).After-afresh-reply)) (intact-fit closings-some _ (named-intact closings-some c.args.bytes.now)), c.if-bytes-lt-HEAD.false)

pub returns-then-not-agrees : goal.returns-then-not-agrees
returns-then-not-agrees c = λ C.
    let b = c.args.bytes.now in
    kept-unlike C b (unlike-head C b (λ q. false≢true (sym (c.if-not-agrees.true) ∙ c.agrees.ensures.1 (ap (λ (r : Reply). session_head r.session) (named C (goal.at.returns-then-not-agrees c).After-afresh-reply) ∙ q)))) _ (c.unlike-then-not-agrees.ensures.0, c.unlike-then-not-agrees.ensures.1 C)

pub returns : goal.returns
returns c = λ C.
    let b = c.args.bytes.now in
    let same = named C (goal.at.returns c).After-afresh-reply in
    kept-like C b ((like-parts C b).1 (record {
      long = c.if-bytes-lt-HEAD.false;
      good = sym (told (goal.at.returns c).After-number_in) ∙ c.if-number_in-ne0.false;
      done = code-done (made_in C b).answer (sym (c.code.ensures ∙ ap (λ (r : Reply). code_of r.answer) same) ∙ c.if-code-ne0.false);
      head = sym (ap (λ (r : Reply). session_head r.session) same) ∙ c.agrees.ensures.0 (c.if-not-agrees.false);
    })) _ (ap (λ (r : Reply). r.session) same)
