-- What rules 6 and 7 give, taken into tables that stay closed.
--
--   Waiting e x y w L S r    == the row r has the writers that w notes of L, but S, that row x of e has and row y has not
--   Asks                     == what is asked of a trace before pairs are taken in
--   Takes ask e p R e' p'    == e' has the pairs of e and those of R; twins stay twins, and where what is asked is so, a table that was growing still is
--   AskWritten w S L         == asked of a load: S is its source, and w notes writers of its address alone
--   AskNoted n s w           == the same of every load below n with a source
use Rattle.std.specs.Prelude.{◌≡◌, ◌≢◌, ◌↔◌, List, ℕ, ◌<◌, length, get_or}
use Rattle.std.proofs.Math.Bool.{So}
use Rattle.laws.specs.Relation.{Rel, Table, ◌⊆◌}
use Rattle.trace.specs.Bounds.{RECORDS}
use Rattle.rules.specs.Frame.{Frame, Writer, Source}
use Rattle.rows.specs.Rows.{bit, Edges, Words}
use Rattle.rules.specs.inner.Growing.{Growing}
use Rattle.edges.specs.inner.ClosedTables.{Twin}

abbrev pub Waiting : List ℕ → ℕ → ℕ → List ℕ → ℕ → ℕ → List ℕ → Type 0
Waiting e x y w L S r = (z : ℕ) → So (bit r 0 z) ↔ (Edges e x z × So (bit w L z) × (Edges e y z → ⊥) × (z ≢ S))

abbrev pub Asks : Type 1
Asks = Frame → Table → Table → Type 0

pub record Takes (ask : Asks) (e p : List ℕ) (R : Rel) (e' p' : List ℕ) : Type 0 where
  pub long : length e' ≡ length e
  pub turned-long : length p' ≡ length p
  pub words : Words e → Words e'
  pub keeps : Edges e ⊆ Edges e'
  pub twin : Twin e p → Twin e' p'
  pub has : Twin e p → R ⊆ Edges e'
  pub growing : (f : Frame) (K P : Table) → ask f K P → Twin e p → Growing f K P (Edges e) → Growing f K P (Edges e')

abbrev pub AskWritten : List ℕ → ℕ → ℕ → Asks
AskWritten w S L f K P = Source f S L × ((z : ℕ) → So (bit w L z) → Writer f z L)

abbrev pub AskNoted : ℕ → List ℕ → List ℕ → Asks
AskNoted n s w f K P = (L : ℕ) → L < n → get_or s L 0 < RECORDS → Source f (get_or s L 0) L × ((z : ℕ) → So (bit w L z) → Writer f z L)
