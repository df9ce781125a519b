-- What the search below a list depends on: the set that is placed, and which of the other reads are served by the latest placed writers.
--
--   Served f p c  == c is not placed, and what it read is what the latest placed writer of its address wrote
--   Alike f p q   == p and q have the same operations, each as often, and serve the same
use Rattle.std.specs.Prelude.{◌≡◌, ◌↔◌, List, ℕ}
use Rattle.std.proofs.Math.Bool.{So}
use Rattle.laws.specs.Places.{count}
use Rattle.rules.specs.Frame.{Frame}
use Rattle.plain.specs.Plain.{so_far}

pub record Served (f : Frame) (p : List ℕ) (c : ℕ) : Type 0 where
  pub reads : So (f.reads c)
  pub unplaced : count c p ≡ 0
  pub value : f.read c ≡ so_far f p c

pub record Alike (f : Frame) (p q : List ℕ) : Type 0 where
  pub often : (x : ℕ) → count x p ≡ count x q
  pub serves : (c : ℕ) → Served f p c ↔ Served f q c
