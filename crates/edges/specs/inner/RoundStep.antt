-- What one turn of the rounds does.
--
--   Facts f s w                    == s has the source of each record, w the writers of each address that is read
--   FirstRound f K P s w e         == the facts are noted, and e has the edges of round 0
--   Closed e h c                   == h has the chains of e, and c tells whether one leads from a number to itself
--   Advanced n s w h b₀ e₀ b e r   == from the chains h, nothing is added to the edges e₀ and all is left; or e has what is added, and b is h
use Rattle.std.specs.Prelude.{◌≡◌, ◌↔◌, Bool, true, false, List, ℕ, ◌<◌, length, get_or}
use Rattle.std.proofs.Math.Bool.{So}
use Rattle.laws.specs.Tests.{any}
use Rattle.laws.specs.Relation.{Table, ◌⊆◌, Chain}
use Rattle.trace.specs.Bounds.{RECORDS}
use Rattle.rules.specs.Frame.{Frame, Writer}
use Rattle.rows.specs.Bounds.{CELLS}
use Rattle.rows.specs.Rows.{bit, Edges}
use Rattle.rules.specs.Rules.{Edge}
use Rattle.edges.specs.inner.PairSets.{Union}
use Rattle.rows.specs.inner.AddedPairs.{Added}
use Rattle.pairs.specs.SourceOf.{source_of}
use Rattle.edges.specs.inner.DrawnEdges.{SettledFor}
use Rattle.edges.specs.LastRound.{Full}

pub record Facts (f : Frame) (s w : List ℕ) : Type 0 where
  pub sources-long : length s ≡ RECORDS
  pub writers-long : length w ≡ CELLS
  pub sources : (L : ℕ) → L < f.records → get_or s L 0 ≡ source_of f L
  pub writers : (S L : ℕ) → So (f.reads L) → So (bit w L S) ↔ Writer f S L

pub record FirstRound (f : Frame) (K P : Table) (s w e : List ℕ) : Type 0 where
  pub facts : Facts f s w
  pub full : Full e
  pub has : (x y : ℕ) → So (bit e x y) ↔ Edge f K P 0 x y

pub record Closed (e h : List ℕ) (c : Bool) : Type 0 where
  pub full : Full h
  pub has : (x y : ℕ) → So (bit h x y) ↔ Chain (Edges e) x y
  pub circle : c ≡ any RECORDS (λ x. bit h x x)

pub data Advanced (n : ℕ) (s w h b₀ e₀ b e : List ℕ) : Bool → Type 0 where
  stays : b ≡ b₀ → e ≡ e₀ → Union n (SettledFor n s w h) ⊆ Edges e₀ → Advanced n s w h b₀ e₀ b e false
  grows : b ≡ h → Added e₀ (Union n (SettledFor n s w h)) e → (e ≡ e₀ → ⊥) → Advanced n s w h b₀ e₀ b e true
