-- Loads and swaps whose value nobody wrote.
--
--   Missing f L  == L reads a value other than its address's first one, and has no source
--   Sourced f    == no source is missing
--   missing? f L == L's source is missing, as a test
use Rattle.std.specs.Prelude.{Bool, not, ◌&&◌, ◌≢◌, ℕ, eqb}
use Rattle.std.proofs.Math.Bool.{So}
use Rattle.std.proofs.Math.Option.{none}
use Rattle.laws.specs.Tests.{any}
use Rattle.laws.specs.Lowest.{Lowest}
use Rattle.rules.specs.Frame.{Frame, Source}
use Rattle.rules.specs.RuleTests.{source?}

pub record Missing (f : Frame) (L : ℕ) : Type 0 where
  pub reads : So (f.reads L)
  pub later : f.read L ≢ f.first (f.address L)
  pub nobody : (S : ℕ) → Source f S L → ⊥

abbrev pub Sourced : Frame → Type 0
Sourced f = Lowest (Missing f) none

unfoldable pub missing? : Frame → ℕ → Bool
missing? f L = f.reads L && not (eqb (f.read L) (f.first (f.address L))) && not (any f.records (λ S. source? f S L))
