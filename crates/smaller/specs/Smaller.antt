-- What is left of a faulty trace, and the answer that hands it back.
--
--   bare_smaller a     == an answer that leaves nothing
--   leaving t A       == the answer that leaves the records of A as a trace of their own, with their old numbers
--   Cuts t m r        == r leaves what the trace is cut down to
--   By t m v r        == the answer where the verdict is v: a circle or none left is cut down
--   ToldSmaller t m r == what `smaller` promises of any trace under any model: 9 before 10, then the answer by the verdict that `Says` allows
--   cut_number a       == document 01's number of an answer that turns the question back; 0 of any other
use Rattle.std.specs.Prelude.{◌≡◌, false, ℕ, replicate}
use Rattle.std.proofs.Math.Bool.{So}
use Rattle.trace.specs.Bounds.{RECORDS}
use Rattle.trace.specs.Padded.{padded}
use Rattle.trace.specs.Trace.{empty}
use Rattle.trace.specs.Meaning.{frame_of}
use Rattle.trace.specs.WellFormed.{well_formed}
use Rattle.trace.specs.declared.Trace.{Trace}
use Rattle.pairs.specs.Kept.{modelled, kept_of}
use Rattle.parts.specs.Removal.{Set}
use Rattle.parts.specs.CutDown.{Left}
use Rattle.parts.specs.Picked.{picked, olds}
use Rattle.rules.specs.Verdict.{Verdict, no_source, circle, order, none_left, Says}
use Rattle.smaller.specs.declared.Answer.{Answer}
use Rattle.smaller.specs.declared.Answer.TheVariants.{NoModel, NotWellFormed, NoSource, NothingWrong, Cut}
use Rattle.smaller.specs.declared.Smaller.{Smaller}

abbrev pub bare_smaller : Answer → Smaller
bare_smaller a = record { answer = a; trace = empty; olds = replicate RECORDS 0 }

abbrev pub leaving : Trace → Set → Smaller
leaving t A = record { answer = Cut; trace = picked t A; olds = padded (olds t A) }

abbrev pub Cuts : Trace → ℕ → Smaller → Type 0
Cuts t m r = (A : Set) × Left t m A × (r ≡ leaving t A)

abbrev pub By : Trace → ℕ → Verdict → Smaller → Type 0
By t m (no_source x) r = r ≡ bare_smaller (NoSource x)
By t m (circle c rs) r = Cuts t m r
By t m (order xs) r = r ≡ bare_smaller NothingWrong
By t m none_left r = Cuts t m r

pub record ToldSmaller (t : Trace) (m : ℕ) (r : Smaller) : Type 0 where
  pub nine : modelled m ≡ false → r ≡ bare_smaller NoModel
  pub ten : So (modelled m) → well_formed t ≡ false → r ≡ bare_smaller NotWellFormed
  pub says : So (modelled m) → So (well_formed t) → (v : Verdict) × Says (frame_of t) (kept_of m t) v × By t m v r

abbrev pub cut_number : Answer → ℕ
cut_number NoModel = 9
cut_number NotWellFormed = 10
cut_number (NoSource x) = 11
cut_number NothingWrong = 0
cut_number Cut = 0
