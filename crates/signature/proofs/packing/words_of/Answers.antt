-- `signature::packing::words_of`: nothing of a trace that is not well formed.
use mathlib.Core.Path.{sym, ap, ◌∙◌}
use mathlib.Core.Bool.{So}
use Rattle.trace.specs.WellFormed.{well_formed}
use Rattle.trace.proofs.WellFormed.{form-iff}
use Rattle.signature.specs.declared.Open.{Open}
use Rattle.signature.proofs.Laid.{top_below}
use Rattle.signature.proofs.SignatureAnswers.{words-none, words-some}
use Rattle.signature.proofs.packing.words_of.Goals.{Else-not-well_formed}
use Rattle.signature.proofs.packing.words_of.Goals as goal

-- the trace is well formed
well : (c : Else-not-well_formed) → So (well_formed c.args.t)
well c = sym c.well_formed-2.ensures ∙ c.if-not-well_formed.false

pub returns-then-not-well_formed : goal.returns-then-not-well_formed
returns-then-not-well_formed c = words-none c.args.t (sym c.well_formed-2.ensures ∙ c.if-not-well_formed.true)

pub all_words-requires : goal.all_words-requires
all_words-requires c = let t = c.args.t in (((form-iff t).0 (well c)).fits, top_below t)

pub returns : goal.returns
returns c = let t = c.args.t in ap (λ (o : Open). o.count) c.all_words.ensures ∙ words-some t (well (goal.at.returns c).Else-not-well_formed)
