-- `desk::sessions::wheelotter_open`: a session opened on what a text says.
use mathlib.Core.Path.{ap, ◌∙◌}
use Prim.Native.Nat.{ℕ}
use Rattle.reader.specs.declared.Reading.{Reading}
use Rattle.desk.specs.Text.{number_in}
use Rattle.desk.specs.OpenedBytes.{open_answer, open_bytes}
use Rattle.desk.proofs.sessions.wheelotter_open.Goals as goal

pub returns : goal.returns
returns c =
    let a = c.args in (
      c.open_on.ensures.0
          ∙ ap (λ (k : ℕ). open_answer k c.read_whole-reading.result.trace a.model a.session.now) c.number_in-number.ensures
          ∙ ap (λ (d : Reading). open_answer (number_in d.answer) d.trace a.model a.session.now) c.read_whole-reading.ensures,
      λ C.
          c.open_on.ensures.1 C
          ∙ ap (λ (k : ℕ). open_bytes C k c.read_whole-reading.result.trace a.model a.session.now) c.number_in-number.ensures
          ∙ ap (λ (d : Reading). open_bytes C (number_in d.answer) d.trace a.model a.session.now) c.read_whole-reading.ensures,
    )
