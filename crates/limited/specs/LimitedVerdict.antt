-- The limited verdict as the code holds it.
--
--   bare_limit o n == an outcome that has no operations, with its count
--   of v n         == a verdict as the full entry holds it, with its count
--   laid_limit a   == an answer at a limit as the code holds it
--   ToldLimited t m l r == what `limited_verdict` promises of any trace, model and limit: 9 before 10, both with count 0, then the answer that `Limits` allows; its
--                     operations have places
use Rattle.std.specs.Prelude.{◌≡◌, false, ℕ, ◌≤◌, replicate}
use Rattle.std.proofs.Math.Bool.{So}
use Rattle.trace.specs.Bounds.{RECORDS}
use Rattle.trace.specs.Meaning.{frame_of}
use Rattle.trace.specs.WellFormed.{well_formed}
use Rattle.trace.specs.declared.Trace.{Trace}
use Rattle.pairs.specs.Kept.{modelled, kept_of}
use Rattle.verdict.specs.VerdictOf as full
use Rattle.verdict.specs.declared.Outcome.TheVariants.{NoModel, NotWellFormed}
use Rattle.verdict.specs.declared.Verdict.{Verdict}
use Rattle.plain.specs.Limited as said
use Rattle.limited.specs.declared.Limited.{Limited}
use Rattle.limited.specs.declared.Limited.TheVariants.{Decided, Undecided}
use Rattle.limited.specs.declared.Limit.{Limit}

abbrev pub bare_limit : Limited → ℕ → Limit
bare_limit o n = record { outcome = o; len = 0; operations = replicate RECORDS 0; rules = replicate RECORDS 0; steps = n }

abbrev pub of : Verdict → ℕ → Limit
of v n = record { outcome = Decided v.outcome; len = v.len; operations = v.operations; rules = v.rules; steps = n }

abbrev pub laid_limit : said.Limited → Limit
laid_limit (said.decided v n) = of (full.laid v) n
laid_limit (said.undecided n) = bare_limit Undecided n

pub record ToldLimited (t : Trace) (m l : ℕ) (r : Limit) : Type 0 where
  pub nine : modelled m ≡ false → r ≡ of (full.bare NoModel) 0
  pub ten : So (modelled m) → well_formed t ≡ false → r ≡ of (full.bare NotWellFormed) 0
  pub says : So (modelled m) → So (well_formed t) → (a : said.Limited) × said.Limits (frame_of t) (kept_of m t) l a × (r ≡ laid_limit a)
  pub fits : r.len ≤ RECORDS
