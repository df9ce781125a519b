-- What the small reader says of any list of numbers.
--
--   PaperShows f K Es l == the numbers l spell a list that closes the branches Es
--   Paper f K l     == they spell a paper that is accepted
--   Accepts t m l r == r is the answer: no such model, then a trace that is not well formed, then whether the paper is accepted
use Rattle.std.specs.Prelude.{◌≡◌, Bool, true, false, List, [], ◌∷◌, ℕ, Result, Ok, Err}
use Rattle.std.proofs.Math.Bool.{So}
use Rattle.laws.specs.Relation.{Table}
use Rattle.rules.specs.Frame.{Frame}
use Rattle.trace.specs.Meaning.{frame_of}
use Rattle.trace.specs.WellFormed.{well_formed}
use Rattle.trace.specs.declared.Trace.{Trace}
use Rattle.pairs.specs.Kept.{modelled, kept_of}
use Rattle.papers.specs.Paper.{Claim, Entry, spell, refutes}
use Rattle.papers.specs.declared.reading.Refusal.{Refusal}
use Rattle.papers.specs.declared.reading.Refusal.TheVariants.{NoModel, NotWellFormed}

abbrev pub PaperShows : Frame → Table → List (List Claim) → List ℕ → Type 0
PaperShows f K Es l = (es : List Entry) × (l ≡ spell es) × So (refutes f K Es es)

abbrev pub Paper : Frame → Table → List ℕ → Type 0
Paper f K l = PaperShows f K ([] ∷ []) l

abbrev pub Accepts : Trace → ℕ → List ℕ → Result Bool Refusal → Type 0
Accepts t m l (Err NoModel) = modelled m ≡ false
Accepts t m l (Err NotWellFormed) = So (modelled m) × (well_formed t ≡ false)
Accepts t m l (Ok true) = So (modelled m) × So (well_formed t) × Paper (frame_of t) (kept_of m t) l
Accepts t m l (Ok false) = So (modelled m) × So (well_formed t) × (Paper (frame_of t) (kept_of m t) l → ⊥)
