-- From the last round to what is forced, and that no second answer fits.
--
--   rounded-some, rounded-none         == the last round, where there is something to answer and where not
--   forces-grew, forces-none           == what is forced, where there is something to answer and where not
--   answered-iff, unanswered           == of a well formed trace under a model that exists something is answered
--   kept_same                          == then lent rows of the kept pairs are the kept pairs
--   rounded-model, forces-model        == under a model that does not exist
--   rounded-kept, forces-kept          == from the rows of a model's kept pairs
--   same_rows                          == whole rows with the same pairs are the same
--   ends-one                           == the rounds end at one round only, and its rows are settled
--   rounded-one, forces-one            == no second answer fits
--   rounded-by-one, forces-by-one      == nor from lent pairs
use mathlib.Core.Path.{◌≡◌, sym, ap₂, ◌∙◌, subst}
use mathlib.Core.Logic.{◌↔◌, inl, inr}
use mathlib.Core.Bool.{Bool, false, So, false≢true}
use mathlib.Core.List.{List}
use Prim.Native.Nat.{ℕ}
use Rattle.laws.specs.Relation.{Table}
use Rattle.laws.proofs.Tests.{off, test, three, test-one, and-iff, same-iff}
use Rattle.rules.specs.Frame.{Frame}
use Rattle.trace.specs.Meaning.{frame_of}
use Rattle.trace.specs.WellFormed.{well_formed}
use Rattle.trace.specs.declared.Trace.{Trace}
use Rattle.rows.specs.Bounds.{CELLS}
use Rattle.rows.specs.Rows.{bit}
use Rattle.rows.specs.Empty.{empty_of}
use Rattle.rows.specs.Lent.{lent_of}
use Rattle.rows.proofs.Whole.{empty-long, empty-words, rows-one}
use Rattle.pairs.specs.Kept.{modelled, kept_of}
use Rattle.pairs.proofs.ValidOrders.{well-fits}
use Rattle.edges.specs.Supposed.{supposed_of}
use Rattle.edges.specs.LastRound.{GoesOn, Full, Ends}
use Rattle.rules.specs.Closing.{Closing}
use Rattle.edges.specs.KeptRows.{KeptRows}
use Rattle.edges.specs.ForcedPairs.{answered, Rounded, Forces, RoundedBy, ForcesBy}
use Rattle.edges.specs.declared.Forced.{Forced}
use Rattle.edges.specs.declared.force.Round.{Round}
use Rattle.edges.specs.inner.Settling.{Grew}
use Rattle.rules.proofs.Closing.{closing-one}
use Rattle.edges.proofs.KeptRows.{kept-lent}

pub answered-iff : (t : Trace) (m : ℕ) → So (answered m t) ↔ (So (well_formed t) × So (modelled m))
answered-iff t m = and-iff (same-iff {a = well_formed t}) (same-iff {a = modelled m})

module _ (t : Trace) (K : Table) (rows : List ℕ) where
  pub rounded-some : (r : Round) → So (well_formed t) → Ends (frame_of t) K (supposed_of t rows) r.number r.circle r.before r.edges r.chains → RoundedBy t K rows r
  rounded-some r s e = record { ended = λ _. e; none = λ n. absurd (false≢true (sym n ∙ s)) }

  pub rounded-none : (r : Round) → well_formed t ≡ false → r.number ≡ 0 → r.circle ≡ false → r.before ≡ empty_of CELLS → r.edges ≡ empty_of CELLS → r.chains ≡ empty_of CELLS → RoundedBy t K rows r
  rounded-none r n k c b e h = record { ended = λ s. absurd (false≢true (sym n ∙ s)); none = λ _. (k, c, b, e, h) }

  pub forces-grew : (r : Forced) → So (well_formed t) → Grew (frame_of t) K (supposed_of t rows) r.contradicted r.held → ForcesBy t K rows r
  forces-grew r s d = record { full = d.full; closing = λ _. d.closing; none = λ n. absurd (false≢true (sym n ∙ s)) }

  pub forces-none : (r : Forced) → well_formed t ≡ false → r.contradicted ≡ false → r.held ≡ empty_of CELLS → ForcesBy t K rows r
  forces-none r n c h = record { full = rw h (record { long = empty-long CELLS; words = empty-words CELLS }); closing = λ s. absurd (false≢true (sym n ∙ s)); none = λ _. (c, h) }

-- where the trace is well formed there is something to answer under a model that exists, and the rows have its kept pairs
pub unanswered : (t : Trace) (m : ℕ) → So (modelled m) → answered m t ≡ false → well_formed t ≡ false
unanswered t m k n = off (λ w. false≢true (sym n ∙ (answered-iff t m).1 (w, k)))

pub kept_same : (t : Trace) (m : ℕ) (kept : List ℕ) → KeptRows t m kept → So (answered m t) → lent_of t kept ≡ kept_of m t
kept_same t m kept is s = kept-lent t m kept (well-fits t ((answered-iff t m).0 s).0) is

module _ (t : Trace) (m : ℕ) (rows : List ℕ) where
  pub rounded-model : (r : Round) → modelled m ≡ false → r.number ≡ 0 → r.circle ≡ false → r.before ≡ empty_of CELLS → r.edges ≡ empty_of CELLS → r.chains ≡ empty_of CELLS → Rounded t m rows r
  rounded-model r n k c b e h = record { ended = λ s. absurd (false≢true (sym n ∙ ((answered-iff t m).0 s).1)); none = λ _. (k, c, b, e, h) }

  pub forces-model : (r : Forced) → modelled m ≡ false → r.contradicted ≡ false → r.held ≡ empty_of CELLS → Forces t m rows r
  forces-model r n c h = record {
    full = rw h (record { long = empty-long CELLS; words = empty-words CELLS });
    closing = λ s. absurd (false≢true (sym n ∙ ((answered-iff t m).0 s).1));
    none = λ _. (c, h);
  }

  module _ (k : So (modelled m)) (kept : List ℕ) (is : KeptRows t m kept) where
    pub rounded-kept : (r : Round) → RoundedBy t (lent_of t kept) rows r → Rounded t m rows r
    rounded-kept r d = record {
      ended = λ s. subst (λ (K : Table). Ends (frame_of t) K (supposed_of t rows) r.number r.circle r.before r.edges r.chains) (kept_same t m kept is s) (d.ended ((answered-iff t m).0 s).0);
      none = λ n. d.none (unanswered t m k n);
    }

    pub forces-kept : (r : Forced) → ForcesBy t (lent_of t kept) rows r → Forces t m rows r
    forces-kept r d = record {
      full = d.full;
      closing = λ s. subst (λ (K : Table). Closing (frame_of t) K (supposed_of t rows) r.contradicted (bit r.held)) (kept_same t m kept is s) (d.closing ((answered-iff t m).0 s).0);
      none = λ n. d.none (unanswered t m k n);
    }

module _ (f : Frame) (K P : Table) where
  -- the rounds do not go on from where they end
  stops : {k : ℕ} {c : Bool} {b e h : List ℕ} → Ends f K P k c b e h → GoesOn f K P k → ⊥
  stops {k} {c} d g = elim (test c) [
    | inl s ↦ let x = d.circle-is.0 s in g.clear x.0 x.1
    | inr n ↦ g.adds (d.last (λ s. false≢true (sym n ∙ s)))
  ]

  one-round : {j k : ℕ} {c c' : Bool} {b e h b' e' h' : List ℕ} → Ends f K P j c b e h → Ends f K P k c' b' e' h' → j ≡ k
  one-round {j} {k} p q = elim (three j k) [
    | inl l ↦ absurd (stops p (q.earlier j l))
    | inr r ↦ elim r [ inl e ↦ e | inr l ↦ absurd (stops q (p.earlier k l)) ]
  ]

  pub same_rows : (a b : List ℕ) → Full a → Full b → ((x y : ℕ) → bit a x y ≡ bit b x y) → a ≡ b
  same_rows a b p q = rows-one a b p.long q.long p.words q.words

  pub ends-one : (j k : ℕ) (c c' : Bool) (b e h b' e' h' : List ℕ) → Ends f K P j c b e h → Ends f K P k c' b' e' h' → (j ≡ k) × (c ≡ c') × (b ≡ b') × (e ≡ e') × (h ≡ h')
  ends-one j k c c' b e h b' e' h' p q₀ =
      let q : Ends f K P j c' b' e' h' = rw (sym (one-round p q₀)) at q₀ in (
        one-round p q₀,
        test-one p.circle-is q.circle-is,
        same_rows b b' p.before-full q.before-full (λ x y. test-one (p.before-has x y) (q.before-has x y)),
        same_rows e e' p.edges-full q.edges-full (λ x y. test-one (p.edges-has x y) (q.edges-has x y)),
        same_rows h h' p.chains-full q.chains-full (λ x y. test-one (p.chains-has x y) (q.chains-has x y)),
      )

-- what the fields settle
abbrev forced-of : Bool → List ℕ → Forced
forced-of c h = record { contradicted = c; held = h }

abbrev round-of : (ℕ × Bool) × List ℕ → List ℕ × List ℕ → Round
round-of p q = record { number = p.0.0; circle = p.0.1; before = p.1; edges = q.0; chains = q.1 }

-- an answer where there is something to answer, and where not
module _ (asked : Bool) (f : Frame) (K P : Table) where
  abbrev EndsAt : Round → Type 0
  EndsAt r = So asked → Ends f K P r.number r.circle r.before r.edges r.chains

  abbrev NoneAt : Round → Type 0
  NoneAt r = asked ≡ false → (r.number ≡ 0) × (r.circle ≡ false) × (r.before ≡ empty_of CELLS) × (r.edges ≡ empty_of CELLS) × (r.chains ≡ empty_of CELLS)

  rounds-one : (r s : Round) → EndsAt r → NoneAt r → EndsAt s → NoneAt s → r ≡ s
  rounds-one r s p none q none' = elim (test asked) [
    | inl a ↦ let o = ends-one f K P _ _ _ _ _ _ _ _ _ _ (p a) (q a) in whole o.0 o.1 o.2 o.3 o.4
    | inr n ↦ let x = none n in let y = none' n in whole (x.0 ∙ sym y.0) (x.1 ∙ sym y.1) (x.2 ∙ sym y.2) (x.3 ∙ sym y.3) (x.4 ∙ sym y.4)
  ]
    where
      whole : r.number ≡ s.number → r.circle ≡ s.circle → r.before ≡ s.before → r.edges ≡ s.edges → r.chains ≡ s.chains → r ≡ s
      whole k c b e h = ap₂ round-of (ap₂ (λ x y. (x, y)) (ap₂ (λ x y. (x, y)) k c) b) (ap₂ (λ x y. (x, y)) e h)

  abbrev ClosesAt : Forced → Type 0
  ClosesAt r = So asked → Closing f K P r.contradicted (bit r.held)

  abbrev BareAt : Forced → Type 0
  BareAt r = asked ≡ false → (r.contradicted ≡ false) × (r.held ≡ empty_of CELLS)

  forced-one : (r s : Forced) → Full r.held → Full s.held → ClosesAt r → BareAt r → ClosesAt s → BareAt s → r ≡ s
  forced-one r s full full' p none q none' = elim (test asked) [
    | inl a ↦ let o = closing-one f K P _ _ _ _ (p a) (q a) in ap₂ forced-of o.0 (rows-one r.held s.held full.long full'.long full.words full'.words o.1)
    | inr n ↦ let x = none n in let y = none' n in ap₂ forced-of (x.0 ∙ sym y.0) (x.1 ∙ sym y.1)
  ]

module _ (t : Trace) (rows : List ℕ) where
  pub rounded-one : (m : ℕ) (r s : Round) → Rounded t m rows r → Rounded t m rows s → r ≡ s
  rounded-one m r s p q = rounds-one (answered m t) (frame_of t) (kept_of m t) (supposed_of t rows) r s p.ended p.none q.ended q.none

  pub rounded-by-one : (K : Table) (r s : Round) → RoundedBy t K rows r → RoundedBy t K rows s → r ≡ s
  rounded-by-one K r s p q = rounds-one (well_formed t) (frame_of t) K (supposed_of t rows) r s p.ended p.none q.ended q.none

  pub forces-one : (m : ℕ) (r s : Forced) → Forces t m rows r → Forces t m rows s → r ≡ s
  forces-one m r s p q = forced-one (answered m t) (frame_of t) (kept_of m t) (supposed_of t rows) r s p.full q.full p.closing p.none q.closing q.none

  pub forces-by-one : (K : Table) (r s : Forced) → ForcesBy t K rows r → ForcesBy t K rows s → r ≡ s
  forces-by-one K r s p q = forced-one (well_formed t) (frame_of t) K (supposed_of t rows) r s p.full q.full p.closing p.none q.closing q.none
