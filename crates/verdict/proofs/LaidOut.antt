-- How the code comes to its verdict.
--
--   padded-take             == an array that is 0 past its used places is made of these
--   told-model, told-form   == a question that is turned back
--   told-kept               == the verdict by the rows of a model's kept pairs is the verdict under the model
--   told-says               == a verdict that `Says` allows, laid into the arrays
--   told-source, told-order, told-circle, told_none == the four outcomes, each from what the parts promise
--   orderless               == where none was found, there is no valid order
use mathlib.Core.Path.{◌≡◌, refl, sym, ap, ◌∙◌, subst}
use mathlib.Core.Bool.{Bool, true, false, So, false≢true}
use mathlib.Core.Logic.{inl, inr}
use mathlib.Core.List.{List, ◌++◌}
use mathlib.Core.Option.{none, some}
use Prim.Native.Nat.{ℕ, zero, suc, ◌+◌, ◌-◌, ◌≤◌, ◌<◌}
use native.Mathlib.Omega.{arith}
use lib.ListN.{length, get_or, take, drop, replicate, length-replicate, length-drop, take-append-drop}
use lib.Seq.{length-take-le, get_or-drop, ext_get_or}
use Rattle.laws.specs.Lowest.{Lowest}
use Rattle.laws.specs.Dict.{Least}
use Rattle.laws.specs.Relation.{Table}
use Rattle.laws.proofs.Tests.{test}
use Rattle.trace.specs.Bounds.{RECORDS}
use Rattle.trace.specs.Meaning.{frame_of}
use Rattle.trace.specs.WellFormed.{well_formed}
use Rattle.trace.specs.Padded.{padded}
use Rattle.rules.specs.Order.{Valid}
use Rattle.trace.specs.declared.Trace.{Trace}
use Rattle.trace.proofs.Good.{good}
use Rattle.rows.specs.Lent.{lent_of}
use Rattle.pairs.specs.Kept.{modelled}
use Rattle.pairs.proofs.ValidOrders.{well-fits}
use Rattle.edges.specs.KeptRows.{KeptRows}
use Rattle.edges.proofs.KeptRows.{kept-lent}
use Rattle.rules.specs.Missing.{Missing, Sourced}
use Rattle.rules.specs.ShownCircle.{Circled}
use Rattle.circle.specs.CircleOf.{ruled_of, CircleBy}
use Rattle.circle.specs.declared.show.Circle as ring
use Rattle.circle.proofs.ShownIn.{zeros}
use Rattle.rules.specs.Verdict as said
use Rattle.pairs.specs.MissingOf.{record?, missing_of}
use Rattle.pairs.specs.Found.{Found}
use Rattle.std.specs.Prelude.{Some, None}
use Rattle.pairs.proofs.MissingOf.{missing-lowest}
use Rattle.rules.proofs.Says.{order-says}
use Rattle.search.specs.FirstOrder.{found?, FirstOrderBy}
use Rattle.search.specs.declared.Order as first
use Rattle.verdict.specs.VerdictOf.{bare, laid, Orderless, ToldBy, Told}
use Rattle.verdict.specs.declared.Outcome.TheVariants.{NoSource, Circle, Order, NoneLeft, NoModel, NotWellFormed}
use Rattle.verdict.specs.declared.Verdict.{Verdict}

pub padded-take : (n : ℕ) (os : List ℕ) → n ≤ RECORDS → length os ≡ RECORDS → ((i : ℕ) → n ≤ i → get_or os i 0 ≡ 0) → padded (take n os) ≡ os
padded-take n os h l z = ap (λ (r : List ℕ). take n os ++ r) same ∙ take-append-drop n os
  where
    long : length (take n os) ≡ n
    long = length-take-le n os (omega arith)

    same : replicate (RECORDS - length (take n os)) 0 ≡ drop n os
    same =
        let k = RECORDS - length (take n os) in
        let e = length-replicate {A = ℕ} k 0 in
        ext_get_or 0 (replicate k 0) (drop n os) (omega (arith, length-drop n os, long)) (λ i _. zeros k i ∙ sym (get_or-drop n os i 0 ∙ z (n + i) (omega arith)))

module _ (t : Trace) (m : ℕ) where
  pub told-model : modelled m ≡ false → Told t m (bare NoModel)
  told-model e = record {
    nine = λ _. refl;
    ten = λ k _. absurd (false≢true (sym e ∙ k));
    says = λ k _. absurd (false≢true (sym e ∙ k));
    fits = omega arith;
  }

  pub told-kept : So (modelled m) → (kept : List ℕ) → KeptRows t m kept → (r : Verdict) → ToldBy t (lent_of t kept) r → Told t m r
  told-kept k kept is r d = record {
    nine = λ n. absurd (false≢true (sym n ∙ k));
    ten = λ _ n. d.ten n;
    says = λ _ w. subst (λ (K : Table). (v : said.Verdict) × said.Says (frame_of t) K v × (r ≡ laid v)) (kept-lent t m kept (well-fits t w) is) (d.says w);
    fits = d.fits;
  }

module _ (t : Trace) (K : Table) where
  pub told-form : well_formed t ≡ false → ToldBy t K (bare NotWellFormed)
  told-form e = record { ten = λ _. refl; says = λ w. absurd (false≢true (sym e ∙ w)); fits = omega arith }

  module _ (w : So (well_formed t)) where
    pub told-says : (v : said.Verdict) → said.Says (frame_of t) K v → (r : Verdict) → r ≡ laid v → r.len ≤ RECORDS → ToldBy t K r
    told-says v s r e h = record { ten = λ n. absurd (false≢true (sym n ∙ w)); says = λ _. (v, s, e); fits = h }

    pub told-source : (x : ℕ) → Some x ≡ missing_of t → ToldBy t K (bare (NoSource x))
    told-source x e = told-says (said.no_source x) (subst (λ (a : Found). Lowest (Missing (frame_of t)) (record? a)) (sym e) (missing-lowest t w)) (bare (NoSource x)) refl (omega arith)

-- with a circle there is one to show
ruled-some : (n : ℕ) (os rs : List ℕ) → 0 < n → ruled_of n os rs ≡ some (take n os, take n rs)
unfolding ruled_of
ruled-some zero os rs h = absurd (omega arith)
ruled-some (suc n) os rs h = refl

ruled-none : (n : ℕ) (os rs : List ℕ) → n ≡ 0 → ruled_of n os rs ≡ none
unfolding ruled_of
ruled-none n os rs e = ap (λ (k : ℕ). ruled_of k os rs) e

-- a verdict is made of its fields
made : {a b : ℕ} {os ps rs qs : List ℕ} → a ≡ b → os ≡ ps → rs ≡ qs
    → ◌≡◌ {A = Verdict} (record { outcome = Circle; len = a; operations = os; rules = rs }) (record { outcome = Circle; len = b; operations = ps; rules = qs })
made p q r = λ i. record { outcome = Circle; len = p i; operations = q i; rules = r i }

made-order : {a b : ℕ} {os ps : List ℕ} → a ≡ b → os ≡ ps
    → ◌≡◌ {A = Verdict} (record { outcome = Order; len = a; operations = os; rules = replicate RECORDS 0 }) (record { outcome = Order; len = b; operations = ps; rules = replicate RECORDS 0 })
made-order p q = λ i. record { outcome = Order; len = p i; operations = q i; rules = replicate RECORDS 0 }

-- what the search answered
module _ (t : Trace) (K : Table) (o : first.Order) (q : FirstOrderBy t K o) where
  -- the trace is well formed where an order was found
  found-well : o.found ≡ true → So (well_formed t)
  found-well e = elim (test (well_formed t)) [ inl s ↦ s | inr n ↦ absurd (false≢true (sym (q.nothing n) ∙ e)) ]

  sought : So (well_formed t) → (b : Bool) → o.found ≡ b → Least (Valid (frame_of t) K) (found? b (take o.len o.operations))
  sought s b e = subst (λ (b : Bool). Least (Valid (frame_of t) K) (found? b (take o.len o.operations))) e (q.first s)

  -- where there is an order, nothing else can be said
  pub told-order : o.found ≡ true → ToldBy t K (record { outcome = Order; len = o.len; operations = o.operations; rules = replicate RECORDS 0 })
  told-order e =
      let xs = take o.len o.operations in
      let w = found-well e in
      told-says t K w (said.order xs) ((order-says (frame_of t) K (good t w) xs).1 (sought w true e)) _
      (sym (made-order (length-take-le o.len o.operations (omega (arith, q.fits, q.long))) (padded-take o.len o.operations q.fits q.long q.rest)))
      q.fits

  pub orderless : o.found ≡ false → Orderless t K
  orderless e w = sought w false e

module _ (t : Trace) (K : Table) (w : So (well_formed t)) (lacks : missing_of t ≡ None) where
  -- no source is missing
  sourced : Sourced (frame_of t)
  sourced = subst (λ (a : Found). Lowest (Missing (frame_of t)) (record? a)) lacks (missing-lowest t w)

  module _ (c : ring.Circle) (p : CircleBy t K c) where
    pub told-circle : 0 < c.len → ToldBy t K (record { outcome = Circle; len = c.len; operations = c.operations; rules = c.rules })
    told-circle l =
        let n = c.len in
        let full : n ≤ length c.operations = omega (arith, p.fits, p.long.0) in
        let s = subst (Circled (frame_of t) K) (ruled-some n c.operations c.rules l) (p.circle w) in
        told-says t K w (said.circle (take n c.operations) (take n c.rules)) (sourced, s) _
        (sym (made (length-take-le n c.operations full)
        (padded-take n c.operations p.fits p.long.0 (λ i g. (p.rest i g).0))
        (padded-take n c.rules p.fits p.long.1 (λ i g. (p.rest i g).1))))
        p.fits

    -- no order and no circle
    pub told_none : Orderless t K → c.len ≡ 0 → ToldBy t K (bare NoneLeft)
    told_none n z =
        let clear = subst (Circled (frame_of t) K) (ruled-none c.len c.operations c.rules z) (p.circle w) in
        told-says t K w said.none_left (sourced, clear, n w) _ refl (omega arith)
