-- `signature::packing::words_in`: nothing of a trace that is not well formed.
use mathlib.Core.Path.{sym, ap, ◌∙◌}
use mathlib.Core.Bool.{So}
use native.Mathlib.Omega.{arith}
use Rattle.trace.specs.WellFormed.{well_formed}
use Rattle.trace.proofs.WellFormed.{form-iff}
use Rattle.signature.specs.declared.Open.{Open}
use Rattle.signature.proofs.Laid.{top_below}
use Rattle.signature.proofs.SignatureAnswers.{size_none, size-some}
use Rattle.signature.proofs.packing.words_in.Goals.{Else-not-well_formed}
use Rattle.signature.proofs.packing.words_in.Goals as goal

-- the trace is well formed
well : (c : Else-not-well_formed) → So (well_formed c.args.t)
well c = sym c.well_formed-2.ensures ∙ c.if-not-well_formed.false

pub returns-then-not-well_formed : goal.returns-then-not-well_formed
returns-then-not-well_formed c = size_none c.args.t c.args.core (sym c.well_formed-2.ensures ∙ c.if-not-well_formed.true)

pub thread_words-requires : goal.thread_words-requires
thread_words-requires c = let t = c.args.t in (((form-iff t).0 (well c)).fits, top_below t, omega arith)

pub returns : goal.returns
returns c = let a = c.args in ap (λ (o : Open). o.count) c.thread_words.ensures.0 ∙ size-some a.t a.core (well (goal.at.returns c).Else-not-well_formed)
