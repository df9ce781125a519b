-- The circle shown for a trace under a model, with its rules.
--
--   shown-same     == what is shown goes by the edges alone
--   none-supposed  == rows with no pair suppose nothing
--   circled-none   == rounds that end without a circle have none
--   circled-some   == the circle of the round at which they end, with the rules that were named, is the one shown
--   circle-none-of == nothing was laid where the last round has no circle
--   ring_laid      == what is shown of the edges between records on circles is what is shown of the last round
--   circle-laid    == what was laid is the circle shown
--   circle-model   == nothing is laid under a model that does not exist
--   circle-kept    == what is shown from the rows of a model's kept pairs is shown under the model
--   circle-of-one, circle-by-one == no second answer fits
use mathlib.Core.Path.{◌≡◌, refl, sym, ap, ap₂, ◌∙◌, subst}
use mathlib.Core.Logic.{inl, inr, ◌↔◌}
use mathlib.Core.Bool.{Bool, true, false, So, false≢true}
use mathlib.Core.List.{List}
use mathlib.Core.Option.{Option, none, some, some-injective}
use Prim.Native.Nat.{ℕ, zero, suc, ◌≤◌, ◌<◌}
use native.Mathlib.Omega.{arith}
use lib.ListN.{length, get_or, take, replicate, length-replicate}
use lib.Seq.{length-take-le, get_or-take}
use Rattle.laws.specs.Relation.{Rel, Table}
use Rattle.laws.proofs.Relation.{chain-mono}
use Rattle.laws.proofs.Tests.{off, test}
use Rattle.trace.specs.Bounds.{RECORDS}
use Rattle.rules.specs.Frame.{Frame, Good}
use Rattle.trace.specs.Meaning.{frame_of}
use Rattle.trace.specs.WellFormed.{well_formed}
use Rattle.trace.specs.declared.Trace.{Trace}
use Rattle.trace.proofs.Good.{good}
use Rattle.rows.specs.Rows.{bit, Edges}
use Rattle.rows.specs.Empty.{empty_of}
use Rattle.rows.specs.Lent.{lent_of}
use Rattle.rows.proofs.Whole.{empty-bit}
use Rattle.pairs.specs.Kept.{modelled, kept_of}
use Rattle.rules.specs.Rules.{Edge, nothing}
use Rattle.edges.specs.Supposed.{supposed_of}
use Rattle.rules.specs.Circle.{Shown, after}
use Rattle.rules.specs.ShownCircle.{Circled}
use Rattle.edges.specs.LastRound.{Ends}
use Rattle.circle.specs.ShownIn.{circle_of, ShownIn}
use Rattle.circle.specs.inner.NamedRules.{RulesNamed}
use Rattle.circle.specs.inner.Ring.{RingOf}
use Rattle.edges.specs.KeptRows.{KeptRows}
use Rattle.edges.specs.ForcedPairs.{answered, RoundedBy}
use Rattle.circle.specs.CircleOf.{ruled_of, CircleBy, CircleOf}
use Rattle.circle.specs.declared.show.Circle.{Circle}
use Rattle.edges.specs.declared.force.Round.{Round}
use Rattle.edges.proofs.Supposed.{supposed-iff}
use Rattle.edges.proofs.ForcedPairs.{answered-iff, unanswered, kept_same}
use Rattle.rules.proofs.Circle.{circle-none, circle-iff}
use Rattle.rules.proofs.Closing.{last-clear}
use Rattle.rules.proofs.ShownCircle.{rule-computed, circled-one}
use Rattle.circle.proofs.ShownIn.{zeros, same-used}
use Rattle.circle.proofs.Ring.{circle-mono, shown-ring}

-- What is shown goes by the edges alone -----------------------------------------------------------------------------------------------------

pub shown-same : (E F : Rel) → ((x y : ℕ) → E x y ↔ F x y) → (a : Option (List ℕ)) → Shown E a → Shown F a
shown-same E F q none s = λ d c. s d (circle-mono F E (λ x y. (q x y).1) d c)
shown-same E F q (some c) s = (circle-mono E F (λ x y. (q x y).0) c s.0, λ d e. s.1 d (circle-mono F E (λ x y. (q x y).1) d e))

-- The rounds of a trace ----------------------------------------------------------------------------------------------------------------------

pub none-supposed : (t : Trace) (n : ℕ) → supposed_of t (empty_of n) ≡ nothing
none-supposed t n = λ i x y. off {b = supposed_of t (empty_of n) x y} (λ s. false≢true (sym (empty-bit n x y) ∙ ((supposed-iff t (empty_of n) x y).0 s).1)) i

module _ (f : Frame) (g : Good f) (K : Table) (k : ℕ) (before edges chains : List ℕ) where
  pub circled-none : Ends f K nothing k false before edges chains → Circled f K none
  circled-none e = λ m. (circle-none (Edge f K nothing m)).1 (λ x c. last-clear f K nothing k (e.last false≢true) (λ x d. false≢true (e.circle-is.1 (x, d))) (x, (suc m, c)))

  pub circled-some : (len : ℕ) (os rs zero-rules : List ℕ) → Ends f K nothing k true before edges chains → len ≤ length os → len ≤ length rs → Shown (Edges edges) (circle_of len os)
      → RulesNamed f K (bit before) (take len os) len zero-rules rs → Circled f K (ruled_of len os rs)
  unfolding circle_of ruled_of
  circled-some len os rs zero-rules e lo lr shown named = go len lo lr (shown-same (Edges edges) (Edge f K nothing k) e.edges-has (circle_of len os) shown) named
    where
      go : (len : ℕ) → len ≤ length os → len ≤ length rs → Shown (Edge f K nothing k) (circle_of len os) → RulesNamed f K (bit before) (take len os) len zero-rules rs → Circled f K (ruled_of len os rs)
      go zero lo lr s n = let (x, c) = e.circle-is.0 refl in absurd ((circle-none (Edge f K nothing k)).0 s x c)
      go (suc m) lo lr s n = (
        k,
        record {
          earlier = λ j l. (circle-none (Edge f K nothing j)).1 (e.earlier j l).clear;
          shown = s;
          rules = record {
            long = length-take-le (suc m) rs lr ∙ sym long;
            lowest = λ i l.
                let h : i < suc m = omega (arith, long) in
                rw (get_or-take (suc m) rs i 0 h ∙ n.each i h) (rule-computed f g K nothing (bit before) k e.before-has (get_or c i 0) (after c i) (((circle-iff (Edge f K nothing k) c).0 s.0).1 i l));
          };
        },
      )
        where
          c : List ℕ
          c = take (suc m) os

          long : length c ≡ suc m
          long = length-take-le (suc m) os lo

-- What comes back ----------------------------------------------------------------------------------------------------------------------------

-- arrays of 0
module _ (r : Circle) (eo : r.operations ≡ replicate RECORDS 0) (er : r.rules ≡ replicate RECORDS 0) where
  blank-long : (length r.operations ≡ RECORDS) × (length r.rules ≡ RECORDS)
  blank-long = (ap length eo ∙ length-replicate {A = ℕ} RECORDS 0, ap length er ∙ length-replicate {A = ℕ} RECORDS 0)

  blank-rest : (i : ℕ) → (get_or r.operations i 0 ≡ 0) × (get_or r.rules i 0 ≡ 0)
  blank-rest i = (ap (λ l. get_or l i 0) eo ∙ zeros RECORDS i, ap (λ l. get_or l i 0) er ∙ zeros RECORDS i)

module _ (t : Trace) (K : Table) (n : ℕ) (supposed : List ℕ) (last : Round) (e : supposed ≡ empty_of n) (d : RoundedBy t K supposed last) where
  -- nothing is supposed
  bare : So (well_formed t) → Ends (frame_of t) K nothing last.number last.circle last.before last.edges last.chains
  bare s = subst (λ (P : Table). Ends (frame_of t) K P last.number last.circle last.before last.edges last.chains) (ap (supposed_of t) e ∙ none-supposed t n) (d.ended s)

  pub circle-none-of : last.circle ≡ false → (r : Circle) → r.len ≡ 0 → r.operations ≡ replicate RECORDS 0 → r.rules ≡ replicate RECORDS 0 → CircleBy t K r
  unfolding ruled_of
  circle-none-of c r z eo er = record {
    fits = omega arith;
    long = blank-long r eo er;
    rest = λ i _. blank-rest r eo er i;
    circle = λ s. rw z (circled-none (frame_of t) (good t s) K last.number last.before last.edges last.chains
        (subst (λ (b : Bool). Ends (frame_of t) K nothing last.number b last.before last.edges last.chains) c (bare s)));
    nothing = λ _. z;
  }

  pub ring_laid : (ring : List ℕ) (len : ℕ) (os : List ℕ) → last.circle ≡ true → RingOf last.edges last.chains ring → ShownIn ring RECORDS len os → ShownIn last.edges RECORDS len os
  ring_laid ring len os c is = elim (test (well_formed t)) [
    | inl s ↦ let ends = bare s in shown-ring last.edges last.chains ring RECORDS len os ends.edges-full.long (λ x h. (ends.chains-has x x).1 (chain-mono (λ x y. (ends.edges-has x y).0) x x h)) is
    | inr a ↦ absurd (false≢true (sym (d.none a).1 ∙ c))
  ]

  pub circle-laid : (r : Circle) (wiped : List ℕ) → last.circle ≡ true → ShownIn last.edges RECORDS r.len r.operations → wiped ≡ replicate RECORDS 0
      → RulesNamed (frame_of t) K (bit last.before) (take r.len r.operations) r.len wiped r.rules → CircleBy t K r
  circle-laid r wiped c shown z named = record {
    fits = shown.fits;
    long = (shown.long, long);
    rest = λ i l. (shown.rest i l, named.rest i l ∙ ap (λ z. get_or z i 0) z ∙ zeros RECORDS i);
    circle = λ s.
        circled-some (frame_of t) (good t s) K last.number last.before last.edges last.chains r.len r.operations r.rules wiped
        (subst (λ (b : Bool). Ends (frame_of t) K nothing last.number b last.before last.edges last.chains) c (bare s))
        (omega (arith, shown.fits, shown.long)) (omega (arith, shown.fits, long)) (shown.shown (bare s).edges-full.long refl) named;
    nothing = λ a. absurd (false≢true (sym (d.none a).1 ∙ c));
  }
    where
      long : length r.rules ≡ RECORDS
      long = named.long ∙ ap length z ∙ length-replicate {A = ℕ} RECORDS 0

module _ (t : Trace) (m : ℕ) where
  pub circle-model : modelled m ≡ false → (r : Circle) → r.len ≡ 0 → r.operations ≡ replicate RECORDS 0 → r.rules ≡ replicate RECORDS 0 → CircleOf t m r
  circle-model n r z eo er = record {
    fits = omega arith;
    long = blank-long r eo er;
    rest = λ i _. blank-rest r eo er i;
    circle = λ s. absurd (false≢true (sym n ∙ ((answered-iff t m).0 s).1));
    nothing = λ _. z;
  }

  pub circle-kept : So (modelled m) → (kept : List ℕ) → KeptRows t m kept → (r : Circle) → CircleBy t (lent_of t kept) r → CircleOf t m r
  circle-kept k kept is r d = record {
    fits = d.fits;
    long = d.long;
    rest = d.rest;
    circle = λ s. subst (λ (K : Table). Circled (frame_of t) K (ruled_of r.len r.operations r.rules)) (kept_same t m kept is s) (d.circle ((answered-iff t m).0 s).0);
    nothing = λ n. d.nothing (unanswered t m k n);
  }

-- what is laid is settled by the circle and its rules
ruled-one : (m n : ℕ) (os rs ps qs : List ℕ) → m ≤ length os → n ≤ length ps → ruled_of m os rs ≡ ruled_of n ps qs → (m ≡ n) × (take m os ≡ take m ps) × (take m rs ≡ take m qs)
unfolding ruled_of
ruled-one zero zero os rs ps qs lm ln e = (refl, refl, refl)
ruled-one zero (suc n) os rs ps qs lm ln e = absurd (let z : ◌≡◌ {A = ℕ} 0 1 = cc in omega arith)
ruled-one (suc m) zero os rs ps qs lm ln e = absurd (let z : ◌≡◌ {A = ℕ} 0 1 = cc in omega arith)
ruled-one (suc m) (suc n) os rs ps qs lm ln e =
    let q = some-injective _ _ e in
    let l : suc m ≡ suc n = omega (arith, ap (λ c. length c.0) q, length-take-le (suc m) os lm, length-take-le (suc n) ps ln) in
    (l, ap (λ c. c.0) q ∙ ap (λ k. take k ps) (sym l), ap (λ c. c.1) q ∙ ap (λ k. take k qs) (sym l))

-- what the fields settle
abbrev circle-with : ℕ → List ℕ × List ℕ → Circle
circle-with n p = record { len = n; operations = p.0; rules = p.1 }

-- an answer where there is something to answer, and where not
module _ (asked : Bool) (f : Frame) (K : Table) where
  record Laid (r : Circle) : Type 0 where
    fits : r.len ≤ RECORDS
    long : (length r.operations ≡ RECORDS) × (length r.rules ≡ RECORDS)
    rest : (i : ℕ) → r.len ≤ i → (get_or r.operations i 0 ≡ 0) × (get_or r.rules i 0 ≡ 0)
    circle : So asked → Circled f K (ruled_of r.len r.operations r.rules)
    nothing : asked ≡ false → r.len ≡ 0

  laid_one : (r s : Circle) → Laid r → Laid s → r ≡ s
  laid_one r s p q = ap₂ circle-with both.0 (ap₂ (λ x y. (x, y))
      (same-used r.len r.operations s.operations (p.long.0 ∙ sym q.long.0) both.1 (λ i h. (p.rest i h).0 ∙ sym (q.rest i (omega (arith, both.0))).0))
      (same-used r.len r.rules s.rules (p.long.1 ∙ sym q.long.1) both.2 (λ i h. (p.rest i h).1 ∙ sym (q.rest i (omega (arith, both.0))).1)))
    where
      both : (r.len ≡ s.len) × (take r.len r.operations ≡ take r.len s.operations) × (take r.len r.rules ≡ take r.len s.rules)
      both = elim (test asked) [
        | inl a ↦ ruled-one r.len s.len r.operations r.rules s.operations s.rules (omega (arith, p.fits, p.long.0)) (omega (arith, q.fits, q.long.0))
            (circled-one f K _ _ (p.circle a) (q.circle a))
        | inr n ↦ let z : r.len ≡ 0 = p.nothing n in (z ∙ sym (q.nothing n), rw z refl, rw z refl)
      ]

pub circle-of-one : (t : Trace) (m : ℕ) (r s : Circle) → CircleOf t m r → CircleOf t m s → r ≡ s
circle-of-one t m r s p q = laid_one (answered m t) (frame_of t) (kept_of m t) r s (of r p) (of s q)
  where
    of : (r : Circle) → CircleOf t m r → Laid (answered m t) (frame_of t) (kept_of m t) r
    of r p = record { fits = p.fits; long = p.long; rest = p.rest; circle = p.circle; nothing = p.nothing }

pub circle-by-one : (t : Trace) (K : Table) (r s : Circle) → CircleBy t K r → CircleBy t K s → r ≡ s
circle-by-one t K r s p q = laid_one (well_formed t) (frame_of t) K r s (of r p) (of s q)
  where
    of : (r : Circle) → CircleBy t K r → Laid (well_formed t) (frame_of t) K r
    of r p = record { fits = p.fits; long = p.long; rest = p.rest; circle = p.circle; nothing = p.nothing }
