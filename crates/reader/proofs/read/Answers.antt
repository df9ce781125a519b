-- `reader::read`: number 1 first, then line by line.
use mathlib.Core.Path.{ap}
use borrow.Author.Tests.{lt-ltb, le-ltb}
use Rattle.trace.specs.declared.Trace.{Trace}
use Rattle.reader.specs.Bounds.{TEXT}
use Rattle.reader.specs.Read.{read_text}
use Rattle.reader.specs.declared.Reason.TheVariants.{LongText}
use Rattle.reader.specs.declared.Answer.TheVariants.{Refused}
use Rattle.reader.proofs.read.Goals as goal

pub returns-then-text-gt-TEXT : goal.returns-then-text-gt-TEXT
unfolding read_text
returns-then-text-gt-TEXT c = rw (lt-ltb TEXT _ c.if-text-gt-TEXT.true) (ap (λ (t : Trace). record { answer = Refused LongText 0; trace = t }) c.empty-trace.ensures)

pub returns : goal.returns
unfolding read_text
returns c = rw (le-ltb TEXT _ c.if-text-gt-TEXT.false) c.walked.ensures.0
