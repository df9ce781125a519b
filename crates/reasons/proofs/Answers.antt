-- How the writer comes to its answer.
--
--   whole-laid                  == the list for the empty branch is the list for the trace
--   front-laid, front_long      == the list in front of the room, and one that is too long
--   wrote-model, wrote-form, wrote-source == a question that is turned back, and a missing source
--   wrote-order, wrote-paper    == a trace that has an order, and one that has none
use mathlib.Core.Path.{◌≡◌, refl, sym, ap, ◌∙◌, subst}
use mathlib.Core.Bool.{Bool, false, So, false≢true}
use mathlib.Core.List.{List, [], ◌++◌}
use mathlib.Core.Option.{some}
use Prim.Native.Nat.{ℕ, suc, ◌+◌, ◌*◌, ◌≤◌}
use native.Mathlib.Nat.{zero-add}
use native.Mathlib.Numerals.{add-one}
use native.Mathlib.Omega.{arith}
use lib.ListN.{length, take, drop}
use lib.Seq.{sets-eq}
use Rattle.laws.specs.Dict.{Least}
use Rattle.laws.specs.Lowest.{Lowest}
use Rattle.laws.specs.ListOf.{row}
use Rattle.laws.proofs.Tests.{and-iff, same-iff}
use Rattle.trace.specs.Bounds.{RECORDS}
use Rattle.trace.specs.Meaning.{frame_of}
use Rattle.trace.specs.WellFormed.{well_formed}
use Rattle.trace.specs.declared.Trace.{Trace}
use Rattle.trace.proofs.Good.{good}
use Rattle.trace.proofs.WellFormed.{form-iff}
use Rattle.rules.specs.Order.{Valid}
use Rattle.rules.specs.Rules.{Joins}
use Rattle.rules.specs.Missing.{Missing, Sourced}
use Rattle.rules.specs.Verdict.{Verdict, no_source, circle, order, none_left, Says}
use Rattle.rules.proofs.ComputedVerdict.{verdict?}
use Rattle.rules.proofs.Says.{circle-none}
use Rattle.rules.proofs.VerdictComputed.{verdict-says}
use Rattle.pairs.specs.Kept.{modelled, kept_of}
use Rattle.pairs.specs.MissingOf.{record?, missing_of}
use Rattle.pairs.specs.Found.{Found}
use Rattle.std.specs.Prelude.{Option, Some, None, Result, Ok, Err}
use Rattle.pairs.proofs.KeptPairs.{kept-joins}
use Rattle.pairs.proofs.MissingOf.{missing-lowest}
use Rattle.search.specs.FirstOrder.{found?, FirstOrder}
use Rattle.search.specs.declared.Order.{Order}
use Rattle.papers.specs.Paper.{Claim, spell}
use Rattle.papers.specs.inner.ReaderBranch.{branch_of}
use Rattle.reasons.specs.Writes.{LaidInFront, ListedBy, Writes}
use Rattle.reasons.specs.Telling.{inside}
use Rattle.reasons.specs.Writing.{paper_of, paper}
use Rattle.reasons.specs.inner.Closable.{Closable}
use Rattle.reasons.specs.inner.Laid.{PutAt}
use Rattle.reasons.specs.inner.PutKept.{PutKept}
use Rattle.reasons.specs.declared.listing.Reason.{Reason}
use Rattle.reasons.specs.declared.listing.Reason.TheVariants.{NoModel, NotWellFormed, TooLong}
use Rattle.reasons.proofs.Writing.{none-joined, paper-closes}

abbrev pub NoOrder : Trace → ℕ → Type 0
NoOrder t m = (xs : List ℕ) → Valid (frame_of t) (kept_of m t) xs → ⊥

module _ (t : Trace) (w : So (well_formed t)) (m : ℕ) (sourced : Sourced (frame_of t)) (none : NoOrder t m) where
  small : (frame_of t).records ≤ RECORDS
  unfolding frame_of
  small = ((form-iff t).0 w).fits

  -- the empty branch, as the arrays keep it
  module _ (from to : List ℕ) (n : ℕ) (e : n ≡ t.len * t.len + 1) where
    nothing-named : branch_of from to 0 ≡ []
    unfolding branch_of row
    nothing-named = refl

    splits : n ≡ suc ((frame_of t).records * (frame_of t).records)
    unfolding frame_of
    splits = e ∙ add-one (t.len * t.len)

    pub whole-joins : Joins (frame_of t) (inside (branch_of from to 0))
    whole-joins = subst (λ (E : List Claim). Joins (frame_of t) (inside E)) (sym nothing-named) (none-joined (frame_of t) (good t w) small (kept_of m t) (kept-joins m t) sourced)

    pub whole-closes : Closable (frame_of t) (kept_of m t) n (branch_of from to 0)
    whole-closes =
        subst (λ (n : ℕ). Closable (frame_of t) (kept_of m t) n (branch_of from to 0)) (sym splits)
        (subst (λ (E : List Claim). Closable (frame_of t) (kept_of m t) (suc ((frame_of t).records * (frame_of t).records)) E) (sym nothing-named)
        (paper-closes (frame_of t) (good t w) small (kept_of m t) (kept-joins m t) sourced none))

    pub whole-laid : (limit : ℕ) (out from' to' out' : List ℕ) (r : Option ℕ) → PutKept limit from to 0 out 0 (spell (paper_of (frame_of t) (kept_of m t) n (branch_of from to 0))) from' to' out' r
        → PutAt limit out 0 (spell (paper (frame_of t) (kept_of m t))) out' r
    whole-laid limit out from' to' out' r h =
        forget r
        (subst (λ (n : ℕ). PutKept limit from to 0 out 0 (spell (paper_of (frame_of t) (kept_of m t) n [])) from' to' out' r) splits
        (subst (λ (E : List Claim). PutKept limit from to 0 out 0 (spell (paper_of (frame_of t) (kept_of m t) n E)) from' to' out' r) nothing-named h))
      where
        forget : (r : Option ℕ) → PutKept limit from to 0 out 0 (spell (paper (frame_of t) (kept_of m t))) from' to' out' r → PutAt limit out 0 (spell (paper (frame_of t) (kept_of m t))) out' r
        forget (Some p) h = (h.0, h.1, h.2)
        forget None h = h

module _ (ws before : List ℕ) where
  pub front_long : (out after : List ℕ) → PutAt (length before) out 0 ws after None → LaidInFront ws before before (Err TooLong)
  front_long out after h = record { fits = λ l. absurd (omega (arith, l, h)); long = λ _. (refl, refl) }

  pub front-laid : (n : ℕ) → n ≡ 0 + length ws → n ≤ length before → (after : List ℕ) (r : Option ℕ) → PutAt (length before) before 0 ws after r → LaidInFront ws before after (Ok (Some n))
  front-laid n e l after r h = record { fits = λ _. (ap (λ k. Ok (Some k)) (e ∙ zero-add (length ws)), laid r h); long = λ g. absurd (omega (arith, e, l, g)) }
    where
      laid : (r : Option ℕ) → PutAt (length before) before 0 ws after r → after ≡ ws ++ drop (length ws) before
      laid (Some p) h = h.2 ∙ sets-eq ws before 0 (omega (arith, e, l)) ∙ ap (λ k. ws ++ drop k before) (zero-add (length ws))
      laid None h = absurd (omega (arith, e, l, h))

module _ (t : Trace) (m : ℕ) (before : List ℕ) where
  pub wrote-model : modelled m ≡ false → Writes t m before before (Err NoModel)
  wrote-model e = record { nine = λ _. (refl, refl); ten = λ k. absurd (false≢true (sym e ∙ k)); says = λ k. absurd (false≢true (sym e ∙ k)) }

  module _ (k : So (modelled m)) where
    pub wrote-form : well_formed t ≡ false → Writes t m before before (Err NotWellFormed)
    wrote-form e = record { nine = λ n. absurd (false≢true (sym n ∙ k)); ten = λ _ _. (refl, refl); says = λ _ w. absurd (false≢true (sym e ∙ w)) }

    module _ (w : So (well_formed t)) where
      -- an answer by a verdict that is allowed
      by : (v : Verdict) → Says (frame_of t) (kept_of m t) v → (after : List ℕ) (r : Result (Option ℕ) Reason) → ListedBy (frame_of t) (kept_of m t) v before after r → Writes t m before after r
      by v s after r b = record { nine = λ n. absurd (false≢true (sym n ∙ k)); ten = λ _ n. absurd (false≢true (sym n ∙ w)); says = λ _ _. (v, s, b) }

      -- the verdict that there is
      given : Says (frame_of t) (kept_of m t) (verdict? (frame_of t) (kept_of m t))
      given = verdict-says (frame_of t) (good t w) (kept_of m t) (kept-joins m t)

      pub wrote-source : (x : ℕ) → missing_of t ≡ Some x → Writes t m before before (Ok None)
      wrote-source x e = by (no_source x) (subst (λ (a : Found). Lowest (Missing (frame_of t)) (record? a)) e (missing-lowest t w)) before (Ok None) (refl, refl)

      module _ (e : missing_of t ≡ None) where
        pub sourced-all : Sourced (frame_of t)
        sourced-all = subst (λ (a : Found). Lowest (Missing (frame_of t)) (record? a)) e (missing-lowest t w)

        -- the first order that the search finds
        found-least : (o : Order) → FirstOrder t m o → Least (Valid (frame_of t) (kept_of m t)) (found? o.found (take o.len o.operations))
        found-least o q = q.first ((and-iff (same-iff {a = well_formed t}) (same-iff {a = modelled m})).1 (w, k))

        pub unfound : (o : Order) → FirstOrder t m o → o.found ≡ false → NoOrder t m
        unfound o q e = subst (λ (b : Bool). Least (Valid (frame_of t) (kept_of m t)) (found? b (take o.len o.operations))) e (found-least o q)

        pub wrote-order : (o : Order) → FirstOrder t m o → So o.found → Writes t m before before (Ok None)
        wrote-order o q f = by (verdict? (frame_of t) (kept_of m t)) given before (Ok None) (go (verdict? (frame_of t) (kept_of m t)) given)
          where
            there : Least (Valid (frame_of t) (kept_of m t)) (some (take o.len o.operations))
            there = subst (λ (b : Bool). Least (Valid (frame_of t) (kept_of m t)) (found? b (take o.len o.operations))) f (found-least o q)

            go : (v : Verdict) → Says (frame_of t) (kept_of m t) v → ListedBy (frame_of t) (kept_of m t) v before before (Ok None)
            go (no_source x) s = (refl, refl)
            go (circle c rs) s = absurd (circle-none (frame_of t) (kept_of m t) (good t w) (c, rs) s.1 _ there.0)
            go (order xs) s = (refl, refl)
            go none_left s = absurd (s.2 _ there.0)

        pub wrote-paper : NoOrder t m → (after : List ℕ) (r : Result (Option ℕ) Reason) → LaidInFront (spell (paper (frame_of t) (kept_of m t))) before after r → Writes t m before after r
        wrote-paper n after r h = by (verdict? (frame_of t) (kept_of m t)) given after r (go (verdict? (frame_of t) (kept_of m t)) given)
          where
            go : (v : Verdict) → Says (frame_of t) (kept_of m t) v → ListedBy (frame_of t) (kept_of m t) v before after r
            go (no_source x) s = absurd (sourced-all x s.0)
            go (circle c rs) s = h
            go (order xs) s = absurd (n xs s.2.0)
            go none_left s = h
