-- `signature::packing::loads_of`: nothing of a trace that is not well formed.
use mathlib.Core.Path.{sym, ◌∙◌}
use mathlib.Core.Bool.{So}
use Rattle.trace.specs.WellFormed.{well_formed}
use Rattle.trace.proofs.WellFormed.{form-iff}
use Rattle.signature.proofs.SignatureAnswers.{loads-none, loads-some}
use Rattle.signature.proofs.packing.loads_of.Goals.{Else-not-well_formed}
use Rattle.signature.proofs.packing.loads_of.Goals as goal

-- the trace is well formed
well : (c : Else-not-well_formed) → So (well_formed c.args.t)
well c = sym c.well_formed-2.ensures ∙ c.if-not-well_formed.false

pub returns-then-not-well_formed : goal.returns-then-not-well_formed
returns-then-not-well_formed c = loads-none c.args.t (sym c.well_formed-2.ensures ∙ c.if-not-well_formed.true)

pub loads_in-requires : goal.loads_in-requires
loads_in-requires c = let t = c.args.t in ((form-iff t).0 (well c)).fits

pub returns : goal.returns
returns c = let t = c.args.t in c.loads_in.ensures.0 ∙ loads-some t (well (goal.at.returns c).Else-not-well_formed)
