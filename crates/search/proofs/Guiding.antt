-- What is held guides the search, and the tables say so.
--
--   held-guided  == what is forced without supposed pairs, and not contradicted, is a guide
--   refuted-none == contradicted, there is no valid order
--   laid         == tables that were laid from a guide
use mathlib.Core.Path.{◌≡◌, refl, sym, ◌∙◌}
use mathlib.Core.Logic.{◌↔◌}
use mathlib.Core.Bool.{false, So, false≢true}
use mathlib.Core.List.{List}
use Prim.Native.Nat.{ℕ, ◌<◌}
use native.Mathlib.Omega.{arith}
use lib.ListN.{get_or}
use Rattle.laws.specs.Relation.{Table}
use Rattle.rules.specs.Frame.{Frame, Writer}
use Rattle.rules.specs.Order.{Valid}
use Rattle.trace.specs.Meaning.{frame_of}
use Rattle.trace.specs.WellFormed.{well_formed}
use Rattle.trace.specs.declared.Trace.{Trace}
use Rattle.trace.proofs.Good.{good}
use Rattle.rows.specs.Bounds.{CELLS}
use Rattle.rows.specs.Rows.{bit}
use Rattle.rows.specs.Empty.{empty_of}
use Rattle.rows.proofs.Whole.{empty-bit}
use Rattle.rules.specs.Rules.{Held, Joins, nothing}
use Rattle.rules.specs.RuleTests.{writer?}
use Rattle.pairs.specs.SourceOf.{source_of}
use Rattle.edges.specs.Supposed.{supposed_of}
use Rattle.rules.specs.Missing.{Sourced}
use Rattle.edges.specs.ForcedPairs.{ForcesBy}
use Rattle.edges.specs.declared.Forced.{Forced}
use Rattle.rules.proofs.RuleTests.{writer-iff}
use Rattle.edges.proofs.Supposed.{supposed-iff}
use Rattle.rules.proofs.Rounds.{more-pairs}
use Rattle.rules.proofs.Ends.{held-joins}
use Rattle.rules.proofs.Sound.{contradicted-none}
use Rattle.rules.proofs.Ready.{held-guide}
use Rattle.search.specs.inner.SearchTables.{tables, Led, Laid}
use Rattle.search.specs.inner.TablesLaid.{Filled, reader?, Counted, Guided}

module _ (t : Trace) (K : Table) (joins : Joins (frame_of t) K) (well : So (well_formed t)) (r : Forced) (forces : ForcesBy t K (empty_of CELLS) r) where
  abbrev f : Frame
  f = frame_of t

  -- no pairs are supposed
  abbrev P : Table
  P = supposed_of t (empty_of CELLS)

  none-supposed : (x y : ℕ) → So (P x y) → ⊥
  none-supposed x y p = false≢true (sym (empty-bit CELLS x y) ∙ ((supposed-iff t (empty_of CELLS) x y).0 p).1)

  pub refuted-none : So r.contradicted → (xs : List ℕ) → Valid f K xs → ⊥
  refuted-none c xs v = contradicted-none f (good t well) K P ((forces.closing well).contradicted.0 c) xs v (λ x y p. absurd (none-supposed x y p))

  module _ (clear : r.contradicted ≡ false) where
    held-iff : (x y : ℕ) → So (bit r.held x y) ↔ Held f K nothing x y
    held-iff x y =
        let h = (forces.closing well).held x y in (
          λ u. more-pairs f K P nothing (λ x y p. absurd (none-supposed x y p)) x y (h.0 u).0,
          λ u. h.1 (more-pairs f K nothing P (λ x y p. absurd (false≢true p)) x y u, λ c. false≢true (sym clear ∙ (forces.closing well).contradicted.1 c)),
        )

    pub held-guided : Guided f K r.held
    held-guided =
        let G = held-guide f (good t well) K joins in
        record {
          guide = record {
            ends = λ x y u. G.ends x y ((held-iff x y).0 u);
            base = λ x y e. (held-iff x y).1 (G.base x y e);
            sound = λ xs v x y u. G.sound xs v x y ((held-iff x y).0 u);
          };
          within = λ x y u.
              let j = held-joins f (good t well) K nothing joins (λ x y p. absurd (false≢true p)) x y ((held-iff x y).0 u) in
              ((good t well).below x j.0, (good t well).below y j.1);
        }

module _ (t : Trace) (w : So (well_formed t)) (K : Table) (held : List ℕ) (guided : Guided (frame_of t) K held) (sourced : Sourced (frame_of t)) where
  records-are : (frame_of t).records ≡ t.len
  unfolding frame_of
  records-are = refl

  pub laid : (m : ℕ) (ops before writers readers sources : List ℕ) → Counted (frame_of t) ops m → Filled t.len (bit held) before → Filled t.len (writer? (frame_of t)) writers
      → Filled t.len (reader? (frame_of t)) readers → ((L : ℕ) → L < t.len → get_or sources L 0 ≡ source_of (frame_of t) L) → Laid (frame_of t) K (tables t.len m ops before writers readers sources)
  laid m ops before writers readers sources c b ws rs ss = record {
    good = good t w;
    sourced = sourced;
    guide = record {
      ends = λ x y u. guided.guide.ends x y ((led x y).0 u);
      base = λ x y e. (led x y).1 (guided.guide.base x y e);
      sound = λ xs v x y u. guided.guide.sound xs v x y ((led x y).0 u);
    };
    records = records-are;
    total = sym c.total;
    operation = c.has;
    writer = λ x y h. (
      λ u. (writer-iff (frame_of t) x y).0 ((ws.pairs x y).0 u).2,
      λ u. (ws.pairs x y).1 (h, writes_below x u, (writer-iff (frame_of t) x y).1 u),
    );
    reader = λ x y h. (
      λ u. (writer-iff (frame_of t) x y).0 ((rs.pairs y x).0 u).2,
      λ u. (rs.pairs y x).1 (writes_below x u, h, (writer-iff (frame_of t) x y).1 u),
    );
    source = ss;
  }
    where
      writes_below : (x : ℕ) {y : ℕ} → Writer (frame_of t) x y → x < t.len
      writes_below x u = omega (arith, (good t w).below x ((good t w).writes x u.writes), records-are)

      led : (x y : ℕ) → Led before x y ↔ So (bit held x y)
      led x y = (
        λ u. ((b.pairs x y).0 u).2,
        λ u. let j = guided.within x y u in (b.pairs x y).1 (omega (arith, j.1, records-are), omega (arith, j.0, records-are), u),
      )
