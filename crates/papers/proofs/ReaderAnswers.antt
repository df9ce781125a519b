-- What the small reader says, by what it has looked at.
--
--   told-form, told-closed == a trace that is not well formed; a list, by whether it closes the branch
use mathlib.Core.Path.{◌≡◌, refl}
use mathlib.Core.Logic.{◌↔◌}
use mathlib.Core.Bool.{Bool, true, false, So, false≢true}
use mathlib.Core.List.{List}
use Prim.Native.Nat.{ℕ}
use Rattle.trace.specs.Meaning.{frame_of}
use Rattle.trace.specs.WellFormed.{well_formed}
use Rattle.trace.specs.declared.Trace.{Trace}
use Rattle.pairs.specs.Kept.{modelled, kept_of}
use Rattle.papers.specs.Accepts.{Paper, Accepts}
use Rattle.papers.specs.declared.reading.Refusal.TheVariants.{NotWellFormed}
use Rattle.std.specs.Prelude.{Ok, Err}

module _ (t : Trace) (m : ℕ) (l : List ℕ) (k : So (modelled m)) where
  pub told-form : well_formed t ≡ false → Accepts t m l (Err NotWellFormed)
  told-form w = (k, w)

  module _ (w : So (well_formed t)) where
    pub told-closed : (closed : Bool) → So closed ↔ Paper (frame_of t) (kept_of m t) l → Accepts t m l (Ok closed)
    told-closed true h = (k, w, h.0 refl)
    told-closed false h = (k, w, λ p. false≢true (h.1 p))
