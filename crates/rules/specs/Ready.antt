-- How many operations there are, and when one may be placed: what must be before it is placed, and no reader waits at its address.
--
--   operations f      == how many operations there are
--   Ready f H p c     == c may be placed after p, where H leads from what must be before
use Rattle.std.specs.Prelude.{◌≡◌, cond, List, ℕ, ◌<◌}
use Rattle.std.proofs.Math.Bool.{So}
use Rattle.laws.specs.Places.{count}
use Rattle.laws.specs.Relation.{Rel}
use Rattle.laws.specs.Sums.{sum}
use Rattle.rules.specs.Frame.{Frame, Writer, Source}

unfoldable pub operations : Frame → ℕ
operations f = sum f.records (λ x. cond (f.operation x) 1 0)

-- where c writes, each other reader at its address whose source is placed is placed too
pub record Ready (f : Frame) (H : Rel) (p : List ℕ) (c : ℕ) : Type 0 where
  pub operation : So (f.operation c)
  pub unplaced : count c p ≡ 0
  pub after : (x : ℕ) → H x c → 0 < count x p
  pub quiet : (S L : ℕ) → Source f S L → Writer f c L → 0 < count S p → 0 < count L p
