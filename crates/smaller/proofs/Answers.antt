-- How the code comes to its answer.
--
--   told-model, told-form, told-source == a question that is turned back
--   told-sound, told-cut               == a trace that has an order, and one that is cut down
use mathlib.Core.Path.{◌≡◌, refl, sym, ◌∙◌, subst}
use mathlib.Core.Bool.{false, So, false≢true}
use Prim.Native.Nat.{ℕ}
use Rattle.laws.specs.Lowest.{Lowest}
use Rattle.trace.specs.Meaning.{frame_of}
use Rattle.trace.specs.WellFormed.{well_formed}
use Rattle.trace.specs.declared.Trace.{Trace}
use Rattle.trace.proofs.Good.{good}
use Rattle.rules.specs.Missing.{Missing, Sourced}
use Rattle.pairs.specs.Kept.{modelled, kept_of}
use Rattle.pairs.proofs.KeptPairs.{kept-joins}
use Rattle.rules.specs.Verdict.{Verdict, no_source, circle, order, none_left, Says}
use Rattle.rules.proofs.ComputedVerdict.{verdict?}
use Rattle.pairs.specs.MissingOf.{record?, missing_of}
use Rattle.pairs.specs.Found.{Found}
use Rattle.std.specs.Prelude.{Some, None}
use Rattle.pairs.proofs.MissingOf.{missing-lowest}
use Rattle.rules.proofs.Says.{circle-none}
use Rattle.rules.proofs.VerdictComputed.{verdict-says}
use Rattle.smaller.specs.Smaller.{bare_smaller, Cuts, By, ToldSmaller}
use Rattle.smaller.specs.declared.Answer.TheVariants.{NoModel, NotWellFormed, NoSource, NothingWrong}
use Rattle.smaller.specs.declared.Smaller.{Smaller}
use Rattle.smaller.specs.inner.RecordSets.{NoOrder}

module _ (t : Trace) (m : ℕ) where
  pub told-model : modelled m ≡ false → ToldSmaller t m (bare_smaller NoModel)
  told-model e = record { nine = λ _. refl; ten = λ k. absurd (false≢true (sym e ∙ k)); says = λ k. absurd (false≢true (sym e ∙ k)) }

  module _ (k : So (modelled m)) where
    pub told-form : well_formed t ≡ false → ToldSmaller t m (bare_smaller NotWellFormed)
    told-form e = record { nine = λ n. absurd (false≢true (sym n ∙ k)); ten = λ _ _. refl; says = λ _ w. absurd (false≢true (sym e ∙ w)) }

    module _ (w : So (well_formed t)) where
      -- an answer by a verdict that is allowed
      by : (v : Verdict) → Says (frame_of t) (kept_of m t) v → (r : Smaller) → By t m v r → ToldSmaller t m r
      by v s r b = record { nine = λ n. absurd (false≢true (sym n ∙ k)); ten = λ _ n. absurd (false≢true (sym n ∙ w)); says = λ _ _. (v, s, b) }

      -- the verdict that there is
      given : Says (frame_of t) (kept_of m t) (verdict? (frame_of t) (kept_of m t))
      given = verdict-says (frame_of t) (good t w) (kept_of m t) (kept-joins m t)

      pub told-source : (x : ℕ) → missing_of t ≡ Some x → ToldSmaller t m (bare_smaller (NoSource x))
      told-source x e = by (no_source x) (subst (λ (a : Found). Lowest (Missing (frame_of t)) (record? a)) e (missing-lowest t w)) (bare_smaller (NoSource x)) refl

      module _ (e : missing_of t ≡ None) where
        sourced : Sourced (frame_of t)
        sourced = subst (λ (a : Found). Lowest (Missing (frame_of t)) (record? a)) e (missing-lowest t w)

        pub told-sound : (NoOrder t m → ⊥) → ToldSmaller t m (bare_smaller NothingWrong)
        told-sound n = by (verdict? (frame_of t) (kept_of m t)) given (bare_smaller NothingWrong) (go (verdict? (frame_of t) (kept_of m t)) given)
          where
            go : (v : Verdict) → Says (frame_of t) (kept_of m t) v → By t m v (bare_smaller NothingWrong)
            go (no_source x) s = absurd (sourced x s.0)
            go (circle c rs) s = absurd (n (circle-none (frame_of t) (kept_of m t) (good t w) (c, rs) s.1))
            go (order xs) s = refl
            go none_left s = absurd (n s.2)

        pub told-cut : NoOrder t m → (r : Smaller) → Cuts t m r → ToldSmaller t m r
        told-cut n r cuts = by (verdict? (frame_of t) (kept_of m t)) given r (go (verdict? (frame_of t) (kept_of m t)) given)
          where
            go : (v : Verdict) → Says (frame_of t) (kept_of m t) v → By t m v r
            go (no_source x) s = absurd (sourced x s.0)
            go (circle c rs) s = cuts
            go (order xs) s = absurd (n xs s.2.0)
            go none_left s = cuts
