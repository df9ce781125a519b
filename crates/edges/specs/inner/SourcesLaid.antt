-- How the sources of a trace are laid, each looked for among the writers of its address.
--
--   WrittenLaid t k values          == of the first k records, what each writes
--   SourceIn by a values L v asks r == r is the lowest number but L that row a has and that wrote v; RECORDS where there is none, or none is asked for
--   SourcesLaid f n before after    == `after` has the source of each record below n, and what `before` had from there on
use Rattle.std.specs.Prelude.{◌≡◌, ◌⊎◌, Bool, List, ℕ, ◌<◌, ◌≤◌, length, get_or}
use Rattle.std.proofs.Math.Bool.{So}
use Rattle.trace.specs.Bounds.{RECORDS}
use Rattle.trace.specs.Op.{written}
use Rattle.trace.specs.Trace.{at}
use Rattle.trace.specs.declared.Trace.{Trace}
use Rattle.rows.specs.Rows.{bit}
use Rattle.rules.specs.Frame.{Frame}
use Rattle.pairs.specs.SourceOf.{source_of}

pub record WrittenLaid (t : Trace) (k : ℕ) (values : List ℕ) : Type 0 where
  pub long : length values ≡ RECORDS
  pub value : (x : ℕ) → x < k → get_or values x 0 ≡ written (at t x)

pub record SourceIn (by : List ℕ) (a : ℕ) (values : List ℕ) (L v : ℕ) (asks : Bool) (r : ℕ) : Type 0 where
  pub none : So asks → (z : ℕ) → z < r → So (bit by a z) → (z ≡ L → ⊥) → get_or values z 0 ≡ v → ⊥
  pub there : (So asks × So (bit by a r) × (r ≡ L → ⊥) × (get_or values r 0 ≡ v)) ⊎ (r ≡ RECORDS)

pub record SourcesLaid (f : Frame) (n : ℕ) (before after : List ℕ) : Type 0 where
  pub long : length after ≡ length before
  pub source : (L : ℕ) → L < n → get_or after L 0 ≡ source_of f L
  pub rest : (L : ℕ) → n ≤ L → get_or after L 0 ≡ get_or before L 0
