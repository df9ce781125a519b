-- `desk::sessions::wheelotter_open_file`: a session opened on what a packed file says.
use mathlib.Core.Path.{ap, ◌∙◌}
use Prim.Native.Nat.{ℕ}
use Rattle.packed.specs.declared.Reading.{Reading}
use Rattle.desk.specs.File.{file_number_in}
use Rattle.desk.specs.OpenedBytes.{open_answer, open_bytes}
use Rattle.desk.proofs.sessions.wheelotter_open_file.Goals as goal

pub returns : goal.returns
returns c =
    let a = c.args in (
      c.open_on.ensures.0
          ∙ ap (λ (k : ℕ). open_answer k c.read_whole-reading.result.trace a.model a.session.now) c.number_in-number.ensures
          ∙ ap (λ (d : Reading). open_answer (file_number_in d.answer) d.trace a.model a.session.now) c.read_whole-reading.ensures,
      λ C.
          c.open_on.ensures.1 C
          ∙ ap (λ (k : ℕ). open_bytes C k c.read_whole-reading.result.trace a.model a.session.now) c.number_in-number.ensures
          ∙ ap (λ (d : Reading). open_bytes C (file_number_in d.answer) d.trace a.model a.session.now) c.read_whole-reading.ensures,
    )
