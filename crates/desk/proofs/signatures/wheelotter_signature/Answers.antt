-- `desk::signatures::wheelotter_signature`: what is wrong with the text, or what packing its program answers.
use mathlib.Core.Path.{◌≡◌, ap, ◌∙◌}
use native.Mathlib.Omega.{arith}
use Rattle.reader.specs.declared.Reading.{Reading}
use Rattle.desk.specs.Text.{number_in, text_number}
use Rattle.desk.specs.Signed.{signed_code}
use Rattle.desk.proofs.Signing.{pack-wrong, pack-good}
use Rattle.desk.proofs.signatures.wheelotter_signature.Goals.{After-number_in-wrong}
use Rattle.desk.proofs.signatures.wheelotter_signature.Goals as goal

-- the number in what the reader answers
numbered : (c : After-number_in-wrong) → c.number_in-wrong.result ≡ text_number c.args.text.now
numbered c = c.number_in-wrong.ensures ∙ ap (λ (r : Reading). number_in r.answer) c.read_whole-reading.ensures

pub returns-then-wrong-gt0 : goal.returns-then-wrong-gt0
returns-then-wrong-gt0 c =
    let a = c.args in
    let w = pack-wrong a.text.now a.words.now (omega (arith, numbered (goal.at.returns-then-wrong-gt0 c).After-number_in-wrong, c.if-wrong-gt0.true)) in
    (numbered (goal.at.returns-then-wrong-gt0 c).After-number_in-wrong ∙ w.0, w.1)

pub returns : goal.returns
returns c =
    let a = c.args in
    pack-good a.text.now a.words.now (omega (arith, numbered (goal.at.returns c).After-number_in-wrong, c.if-wrong-gt0.false)) c.read_whole-reading.result.trace (ap (λ (r : Reading). r.trace) c.read_whole-reading.ensures) _ _ (c.code.ensures ∙ ap signed_code c.pack.ensures.0) c.pack.ensures.1
