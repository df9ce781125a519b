-- What the functions that draw edges add, in the order in which they come by it. In proofs/DrawnEdges.antt it is what the rules give.
--
--   Spared r o x         == the pairs of row x of the rows r, but none to what row 0 of o has
--   SparedFrom r o x     == the same, and none from what it has
--   paired t kept rows   == the pairs of rules 1 and 8, both lent as rows
--   Stored f st a        == row a of st has the records that write the address a
--   Valued e y s S L     == what a writer S of L's address gives L by rules 2 to 5, where s is L's source, told whether S is earlier and L reads the first value
--   Passed y s S L       == what a writer S of L's address that is earlier gives L by rules 3 and 5, where s is L's source, told whether L reads the first value
--   PassedBy f w y s L S == the same of any record S, where row 0 of w has the writers
--   reads_first f L       == L reads the first value of its address
--   ValuedFor f L S      == what S gives L in a frame, if it writes L's address
--   Settled c S L z      == what another writer z of L's address gives L, whose source is S, by rules 6 and 7 from the chains c
--   SettledBy w c S L z  == the same of any record z, where w has the writers
--   SettledFor n s w c L == what all records below n give the load L, whose source s has
--   Loaded f n k s w₀ w e₀ e == for each L below k, s has its source; if L reads, w has what is added to w₀, the writers of its address below n,
--                               and e what is added to e₀, what they give it by rules 2 to 5
use Rattle.std.specs.Prelude.{◌≡◌, ◌↔◌, ◌⊎◌, Bool, not, ◌&&◌, ◌||◌, List, ℕ, ◌<◌, eqb, ltb, length, get_or}
use Rattle.std.proofs.Math.Bool.{So}
use Rattle.laws.specs.Relation.{Rel, Table}
use Rattle.trace.specs.Bounds.{RECORDS}
use Rattle.rules.specs.Frame.{Frame}
use Rattle.trace.specs.declared.Trace.{Trace}
use Rattle.rows.specs.Rows.{bit}
use Rattle.rows.specs.Lent.{lent_of}
use Rattle.rules.specs.RuleTests.{writer?}
use Rattle.edges.specs.inner.PairSets.{Only, Union}
use Rattle.rows.specs.inner.AddedPairs.{Added}
use Rattle.pairs.specs.SourceOf.{source_of}

abbrev pub Spared : List ℕ → List ℕ → ℕ → Rel
Spared r o x i j = (i ≡ x) × So (bit r x j) × (So (bit o 0 j) → ⊥)

abbrev pub SparedFrom : List ℕ → List ℕ → ℕ → Rel
SparedFrom r o x i j = (So (bit o 0 x) → ⊥) × Spared r o x i j

abbrev pub paired : Trace → List ℕ → List ℕ → Table
paired t kept rows x y = lent_of t kept x y || lent_of t rows x y

abbrev pub Stored : Frame → List ℕ → ℕ → Type 0
Stored f st a = (x : ℕ) → So (bit st a x) ↔ (So (f.writes x) × (f.address x ≡ a))

pub data Valued (earlier early : Bool) (source S L x y : ℕ) : Type 0 where
  second : Only (eqb S source && not earlier) S L x y → Valued earlier early source S L x y
  third : Only (ltb source RECORDS && not (eqb S source) && earlier) S source x y → Valued earlier early source S L x y
  fourth : Only early L S x y → Valued earlier early source S L x y
  fifth : Only (early && earlier) S L x y → Valued earlier early source S L x y

abbrev pub Passed : Bool → ℕ → ℕ → ℕ → Rel
Passed early source S L x y = Only (ltb source RECORDS && not (eqb S source)) S source x y ⊎ Only early S L x y

abbrev pub PassedBy : Frame → List ℕ → Bool → ℕ → ℕ → ℕ → Rel
PassedBy f w early source L S x y = (So (bit w 0 S) × So (f.earlier S L)) × Passed early source S L x y

abbrev pub reads_first : Frame → ℕ → Bool
reads_first f L = f.reads L && eqb (f.read L) (f.first (f.address L))

abbrev pub ValuedFor : Frame → ℕ → ℕ → Rel
ValuedFor f L S x y = So (writer? f S L) × Valued (f.earlier S L) (reads_first f L) (source_of f L) S L x y

pub data Settled (c : List ℕ) (S L z x y : ℕ) : Type 0 where
  sixth : Only (bit c z L) z S x y → Settled c S L z x y
  seventh : Only (bit c S z) L z x y → Settled c S L z x y

abbrev pub SettledBy : List ℕ → List ℕ → ℕ → ℕ → ℕ → Rel
SettledBy w c S L z x y = So (bit w L z && not (eqb z S)) × Settled c S L z x y

-- rules 6 and 7 ask for a source
abbrev pub SettledFor : ℕ → List ℕ → List ℕ → List ℕ → ℕ → Rel
SettledFor n s w c L x y = (get_or s L 0 < RECORDS) × Union n (SettledBy w c (get_or s L 0) L) x y

pub record Loaded (f : Frame) (n k : ℕ) (s w₀ w e₀ e : List ℕ) : Type 0 where
  pub long : length s ≡ RECORDS
  pub sources : (L : ℕ) → L < k → get_or s L 0 ≡ source_of f L
  pub writers : Added w₀ (Union k (λ L x y. So (f.reads L) × Union n (λ S. Only (writer? f S L) L S) x y)) w
  pub edges : Added e₀ (Union k (λ L x y. So (f.reads L) × Union n (ValuedFor f L) x y)) e
