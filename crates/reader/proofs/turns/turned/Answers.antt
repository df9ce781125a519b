-- `reader::turns::turned`: length, then ending, then form.
use mathlib.Core.Path.{◌≡◌, sym, ◌∙◌}
use mathlib.Core.Bool.{false}
use borrow.Author.Tests.{lt-ltb, le-ltb}
use Rattle.reader.specs.Bounds.{LINE}
use Rattle.reader.specs.LineForms.{form_of, init_of}
use Rattle.reader.specs.Answer.{turned}
use Rattle.reader.proofs.Bounded.{form-checked, form-nothing}
use Rattle.reader.proofs.turns.turned.Goals as goal

pub returns-then-bytes-gt-LINE : goal.returns-then-bytes-gt-LINE
unfolding turned
returns-then-bytes-gt-LINE c = rw (lt-ltb LINE _ c.if-bytes-gt-LINE.true)

pub returns-then-not-ended : goal.returns-then-not-ended
unfolding turned
returns-then-not-ended c =
    let e : c.args.ended ≡ false = c.if-not-ended.true in
    rw (le-ltb LINE _ c.if-bytes-gt-LINE.false, e)

pub returns-in-Some : goal.returns-in-Some
unfolding turned
returns-in-Some c =
    let a = c.args in
    rw (le-ltb LINE _ c.if-bytes-gt-LINE.false, c.if-not-ended.false)
    (c.checked.ensures ∙ form-checked a.t (form_of a.bytes.now) (init_of a.bytes.now) _ (sym c.in-Some.is ∙ c.form.ensures))

pub returns-in-None : goal.returns-in-None
unfolding turned
returns-in-None c =
    let a = c.args in
    rw (le-ltb LINE _ c.if-bytes-gt-LINE.false, c.if-not-ended.false)
    (c.unformed.ensures ∙ form-nothing a.t (form_of a.bytes.now) (init_of a.bytes.now) (sym c.in-None.is ∙ c.form.ensures))
