-- A trace as the rules see it: by tests and numbers alone. The kept pairs of a model and the supposed pairs of a session stand outside it, as tables.
--
--   Frame          == what each record is; a fence is no operation, a swap both reads and writes
--   Good f         == what a well formed trace promises
--   Writer f S L   == S writes L's address, and is not L
--   Source f S L   == L reads a value other than its address's first one, and S wrote it
--   First f S L    == L reads its address's first value, and S writes that address
use Rattle.std.specs.Prelude.{◌≡◌, ◌≢◌, Bool, ℕ, ◌<◌}
use Rattle.std.proofs.Math.Bool.{So}

pub record Frame : Type 0 where
  -- how many records there are
  pub records : ℕ
  -- record x is a load, a store or a swap; it reads; it writes
  pub operation : ℕ → Bool
  pub reads : ℕ → Bool
  pub writes : ℕ → Bool
  -- its address, the value it read, the value it wrote
  pub address : ℕ → ℕ
  pub read : ℕ → ℕ
  pub written : ℕ → ℕ
  -- the value that an address begins with
  pub first : ℕ → ℕ
  -- x is before y in program order
  pub earlier : ℕ → ℕ → Bool

-- Nothing is asked of program order, and nothing of a table.
pub record Good (f : Frame) : Type 0 where
  pub below : (x : ℕ) → So (f.operation x) → x < f.records
  pub reads : (x : ℕ) → So (f.reads x) → So (f.operation x)
  pub writes : (x : ℕ) → So (f.writes x) → So (f.operation x)
  pub fresh : (x : ℕ) → So (f.writes x) → f.written x ≢ f.first (f.address x)
  pub once : (x y : ℕ) → So (f.writes x) → So (f.writes y) → f.address x ≡ f.address y → f.written x ≡ f.written y → x ≡ y

pub record Writer (f : Frame) (S L : ℕ) : Type 0 where
  pub writes : So (f.writes S)
  pub same : f.address S ≡ f.address L
  pub other : S ≢ L

pub record Source (f : Frame) (S L : ℕ) : Type 0 where
  pub writer : Writer f S L
  pub reads : So (f.reads L)
  pub value : f.read L ≡ f.written S
  pub later : f.read L ≢ f.first (f.address L)

pub record First (f : Frame) (S L : ℕ) : Type 0 where
  pub writer : Writer f S L
  pub reads : So (f.reads L)
  pub value : f.read L ≡ f.first (f.address L)
