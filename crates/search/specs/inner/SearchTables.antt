-- What the search looks at in place of the trace: relations as rows and sets as one row each, laid before it begins.
--
--   Tables     == how many records there are, how many operations, and the rows; `tables` makes one
--   Led b x y  == by the rows b, x must be before y: row y of b has x
--   Laid f K T == the tables T say what f says, and may guide the search for the valid orders under K
use Rattle.std.specs.Prelude.{◌≡◌, ◌↔◌, List, ℕ, ◌<◌, get_or}
use Rattle.std.proofs.Math.Bool.{So}
use Rattle.laws.specs.Relation.{Rel, Table}
use Rattle.rules.specs.Frame.{Frame, Good, Writer}
use Rattle.rows.specs.Rows.{bit}
use Rattle.rules.specs.Missing.{Sourced}
use Rattle.pairs.specs.SourceOf.{source_of}
use Rattle.rules.specs.Ready.{operations}
use Rattle.rules.specs.inner.Discipline.{Guide}

pub record Tables : Type 0 where
  pub n : ℕ
  pub total : ℕ
  -- the set of the operations
  pub operations : List ℕ
  -- row y: what must be before y; the writers of y's address but y; if y writes, the other records of its address
  pub before : List ℕ
  pub writers : List ℕ
  pub readers : List ℕ
  -- the source of each record
  pub sources : List ℕ

abbrev pub tables : ℕ → ℕ → List ℕ → List ℕ → List ℕ → List ℕ → List ℕ → Tables
tables n total operations before writers readers sources = record {
  n = n;
  total = total;
  operations = operations;
  before = before;
  writers = writers;
  readers = readers;
  sources = sources;
}

abbrev pub Led : List ℕ → Rel
Led before x y = So (bit before y x)

pub record Laid (f : Frame) (K : Table) (T : Tables) : Type 0 where
  pub good : Good f
  pub sourced : Sourced f
  pub guide : Guide f K (Led T.before)
  pub records : f.records ≡ T.n
  pub total : operations f ≡ T.total
  pub operation : (x : ℕ) → So (bit T.operations 0 x) ↔ So (f.operation x)
  pub writer : (x y : ℕ) → y < T.n → So (bit T.writers y x) ↔ Writer f x y
  pub reader : (x y : ℕ) → y < T.n → So (bit T.readers x y) ↔ Writer f x y
  pub source : (L : ℕ) → L < T.n → get_or T.sources L 0 ≡ source_of f L
