-- What the writer hands back.
--
--   LaidInFront ws before after r == the numbers ws stand in front, the rest is as it was, and r tells how many they are; where they do not fit, all is as it was
--   ListedBy f K v before after r == the answer where the verdict is v: the list is laid where it is a circle or none left, and otherwise there is nothing to show
--   Writes t m before after r     == what `write` promises of any trace under any model: 9 before 10, then the answer by the verdict that `Says` allows
--   write_number r                == document 01's number of an answer that turns the question back, 21 where the room is too small; 0 of any other
use Rattle.std.specs.Prelude.{◌≡◌, false, List, ◌++◌, ℕ, ◌<◌, ◌≤◌, length, drop, Option, Some, None, Result, Ok, Err}
use Rattle.std.proofs.Math.Bool.{So}
use Rattle.laws.specs.Relation.{Table}
use Rattle.trace.specs.Meaning.{frame_of}
use Rattle.trace.specs.WellFormed.{well_formed}
use Rattle.trace.specs.declared.Trace.{Trace}
use Rattle.pairs.specs.Kept.{modelled, kept_of}
use Rattle.rules.specs.Frame.{Frame}
use Rattle.rules.specs.Verdict.{Verdict, no_source, circle, order, none_left, Says}
use Rattle.papers.specs.Paper.{spell}
use Rattle.reasons.specs.Writing.{paper}
use Rattle.reasons.specs.declared.listing.Reason.{Reason}
use Rattle.reasons.specs.declared.listing.Reason.TheVariants.{NoModel, NotWellFormed, TooLong}

pub record LaidInFront (ws before after : List ℕ) (r : Result (Option ℕ) Reason) : Type 0 where
  pub fits : length ws ≤ length before → (r ≡ Ok (Some (length ws))) × (after ≡ ws ++ drop (length ws) before)
  pub long : length before < length ws → (r ≡ Err TooLong) × (after ≡ before)

abbrev pub ListedBy : Frame → Table → Verdict → List ℕ → List ℕ → Result (Option ℕ) Reason → Type 0
ListedBy f K (no_source x) before after r = (r ≡ Ok None) × (after ≡ before)
ListedBy f K (circle c rs) before after r = LaidInFront (spell (paper f K)) before after r
ListedBy f K (order xs) before after r = (r ≡ Ok None) × (after ≡ before)
ListedBy f K none_left before after r = LaidInFront (spell (paper f K)) before after r

pub record Writes (t : Trace) (m : ℕ) (before after : List ℕ) (r : Result (Option ℕ) Reason) : Type 0 where
  pub nine : modelled m ≡ false → (r ≡ Err NoModel) × (after ≡ before)
  pub ten : So (modelled m) → well_formed t ≡ false → (r ≡ Err NotWellFormed) × (after ≡ before)
  pub says : So (modelled m) → So (well_formed t) → (v : Verdict) × Says (frame_of t) (kept_of m t) v × ListedBy (frame_of t) (kept_of m t) v before after r

abbrev pub write_number : Result (Option ℕ) Reason → ℕ
write_number (Err NoModel) = 9
write_number (Err NotWellFormed) = 10
write_number (Ok None) = 0
write_number (Err TooLong) = 21
write_number (Ok (Some n)) = 0
