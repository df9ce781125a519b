-- The pair that the writer splits on.
--
--   first-pair   == the first pair that passes, or none does
--   open-iff     == when a pair is open
--   choose-found == a pair that is chosen is open; where none is chosen, none is
--   read-from    == a source is read from
use mathlib.Core.Logic.{◌↔◌, ◌⊎◌}
use mathlib.Core.Bool.{So, ◌&&◌}
use mathlib.Core.List.{List}
use mathlib.Core.Option.{Option, none, some}
use Prim.Native.Nat.{ℕ, ◌<◌, ◌≤◌}
use native.Mathlib.Omega.{arith}
use lib.Dec.{eqb}
use Rattle.laws.specs.Tests.{any}
use Rattle.laws.specs.Relation.{Table}
use Rattle.laws.specs.Lowest.{Lowest, lowest}
use Rattle.laws.proofs.Tests.{and-iff, or-iff, not_iff, same-iff, so-any, so-eq}
use Rattle.laws.proofs.Lowest.{lowest-iff}
use Rattle.trace.specs.Bounds.{RECORDS}
use Rattle.rules.specs.Frame.{Frame, Good, Writer, Source}
use Rattle.pairs.specs.SourceOf.{source_of}
use Rattle.rules.proofs.RuleTests.{writer-iff}
use Rattle.pairs.proofs.SourceOf.{source-of-has}
use Rattle.papers.specs.Paper.{Claim}
use Rattle.reasons.specs.Writing.{read_from, held_in, open?, falls, falls₂, first_pair, or_pair, choose}

-- what a search for a pair comes to
abbrev pub Found : ℕ → Table → Option (ℕ × ℕ) → Type 0
Found n t (some p) = So (t p.0 p.1)
Found n t none = (x y : ℕ) → x < n → y < n → So (t x y) → ⊥

pub first-pair : (n : ℕ) (t : Table) → Found n t (first_pair n t)
unfolding first_pair
first-pair n t = go (lowest (λ x. any n (t x)) n 0) (lowest-iff _ Row n (λ x h. (λ s. (h, s), λ r. r.1)) (λ x r. r.0) n 0 (omega arith) (λ x r. omega arith))
  where
    Row : ℕ → Type 0
    Row x = (x < n) × So (any n (t x))

    Cell : ℕ → ℕ → Type 0
    Cell x y = (y < n) × So (t x y)

    inner : (x : ℕ) → So (any n (t x)) → (o : Option ℕ) → Lowest (Cell x) o → Found n t (elim o [ some y ↦ some (x, y) | none ↦ none ])
    inner x s (some y) l = l.0.1
    inner x s none l = absurd (let r = (so-any n (t x)).0 s in l r.0 (r.1, r.2))

    go : (o : Option ℕ) → Lowest Row o → Found n t (elim o [ some x ↦ elim (lowest (t x) n 0) [ some y ↦ some (x, y) | none ↦ none ] | none ↦ none ])
    go (some x) l = inner x l.0.1 (lowest (t x) n 0) (lowest-iff _ (Cell x) n (λ y h. (λ s. (h, s), λ r. r.1)) (λ y r. r.0) n 0 (omega arith) (λ y r. omega arith))
    go none l = λ x y a b s. l x (a, (so-any n (t x)).1 (y, b, s))

module _ (f : Frame) (K : Table) (E : List Claim) where
  or_else : (u : Table) (o : Option (ℕ × ℕ)) → Found f.records (open? f K E) o → Found f.records (open? f K E) (or_pair (first_pair f.records (λ x y. open? f K E x y && u x y)) o)
  or_else u o h = go (first_pair f.records (λ x y. open? f K E x y && u x y)) (first-pair f.records (λ x y. open? f K E x y && u x y))
    where
      go : (q : Option (ℕ × ℕ)) → Found f.records (λ x y. open? f K E x y && u x y) q → Found f.records (open? f K E) (or_pair q o)
      go (some p) s = ((and-iff same-iff same-iff).0 s).0
      go none s = h

  pub choose-found : Found f.records (open? f K E) (choose f K E)
  unfolding choose
  choose-found = or_else (falls₂ f K E) _ (or_else (falls f K E) _ (first-pair f.records (open? f K E)))

  abbrev pub Open : ℕ → ℕ → Type 0
  Open x y = (((So (f.writes x) × Writer f y x) × (So (read_from f x) ⊎ So (read_from f y))) × (So (held_in f K E x y) → ⊥)) × (So (held_in f K E y x) → ⊥)

  pub open-iff : (x y : ℕ) → So (open? f K E x y) ↔ Open x y
  unfolding open?
  open-iff x y = and-iff (and-iff (and-iff (and-iff same-iff (writer-iff f y x)) (or-iff same-iff same-iff)) (not_iff same-iff)) (not_iff same-iff)

pub read-from : (f : Frame) → Good f → f.records ≤ RECORDS → (S L : ℕ) → Source f S L → So (read_from f S)
unfolding read_from
read-from f g small S L s =
    let l : L < RECORDS = omega (arith, g.below L (g.reads L s.reads)) in
    (so-any RECORDS (λ L. eqb (source_of f L) S)).1 (L, l, so-eq.1 (source-of-has f L g S (omega (arith, g.below S (g.writes S s.writer.writes))) s))
