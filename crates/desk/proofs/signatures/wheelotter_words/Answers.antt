-- `desk::signatures::wheelotter_words`: of the trace that the text writes.
use mathlib.Core.Path.{ap, ◌∙◌}
use Rattle.reader.specs.declared.Reading.{Reading}
use Rattle.signature.specs.SignatureAnswers.{words_in}
use Rattle.desk.proofs.signatures.wheelotter_words.Goals as goal

pub returns : goal.returns
returns c = c.words_of.ensures ∙ ap (λ (r : Reading). words_in r.trace) c.read_whole-reading.ensures
