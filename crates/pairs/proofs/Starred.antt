-- The starred traces of document 01, and KNOT: its forced edges have no circle, and yet no order is left.
--
--   starred == every case of the table holds
use mathlib.Core.Path.{◌≡◌, refl, sym, ap, subst}
use mathlib.Core.Logic.{inl, inr}
use mathlib.Core.Bool.{Bool, true, So}
use mathlib.Core.List.Memᴰ
use mathlib.Core.List.{List, [], ◌∷◌, Memᴰ}
use Prim.{tt}
use Prim.Native.Nat.{ℕ, suc}
use lib.ListN.{length}
use Rattle.laws.specs.Tests.{all, any}
use Rattle.laws.specs.Places.{count}
use Rattle.laws.specs.Sums.{sum}
use Rattle.laws.specs.Lowest.{lowest}
use Rattle.laws.specs.ListOf.{row}
use Rattle.laws.specs.Warshall.{memo, wars}
use Rattle.trace.specs.Trace.{first}
use Rattle.trace.specs.declared.Trace.{Trace}
use Rattle.trace.specs.Meaning.{frame_of}
use Rattle.trace.specs.WellFormed.{bounded, written_before, fresh, follows, is_idle, well_formed}
use Rattle.trace.proofs.Good.{good}
use Rattle.pairs.specs.Kept.{SC, MODELS, let_off, kept_by, fenced, kept_of}
use Rattle.rules.specs.RuleTests.{writer?, source?, first?, rules, gives?}
use Rattle.rules.specs.ComputedRounds.{step?, chains?}
use Rattle.rules.specs.Missing.{missing?}
use Rattle.rules.specs.ComputedWalks.{walk?, follow, shown?}
use Rattle.rules.specs.ShownCircle.{rule?}
use Rattle.rules.specs.inner.ComputedCircle.{rules_of, rounds, circled?}
use Rattle.pairs.proofs.KeptPairs.{kept-joins}
use Rattle.rules.specs.Verdict.{Verdict}
use Rattle.rules.specs.Ready.{operations}
use Rattle.rules.proofs.SearchScheme.{walk, seek}
use Rattle.rules.proofs.ComputedVerdict.{ready?, unread?, covered?, stop?, same?, known, sought, verdict?}
use Rattle.pairs.specs.Starred.{places, trace_of, StarredCase, cases, Under, CaseHolds}
use Rattle.rules.proofs.VerdictComputed.{verdict-only}

-- the verdicts of a trace under model m and those after it, as many as are wanted
verdicts : Trace → ℕ → List Verdict → List Verdict
verdicts t m [] = []
verdicts t m (v ∷ vs) = verdict? (frame_of t) (kept_of m t) ∷ verdicts t (suc m) vs

-- what a case has: its form, how many verdicts, the verdicts
abbrev Answers : Type 0
Answers = Bool × ℕ × List Verdict

wanted : List StarredCase → List Answers
wanted [] = []
wanted (c ∷ cs) = (true, MODELS, c.verdicts) ∷ wanted cs

computed : List StarredCase → List Answers
computed [] = []
computed (c ∷ cs) = let t = trace_of c.ops in (well_formed t, length c.verdicts, verdicts t SC c.verdicts) ∷ computed cs

agree : computed cases ≡ wanted cases
unfolding cases computed wanted verdicts trace_of places well_formed follows fresh bounded written_before is_idle first frame_of kept_of kept_by let_off fenced verdict? lowest missing? circled? rounds rules_of rule?
    shown? walk? follow sought seek walk ready? unread? covered? stop? same? known operations sum count all any chains? wars memo row step? gives? rules source? first? writer?
agree = refl

-- verdicts that are computed are those that the trace has
under : (t : Trace) → So (well_formed t) → (m : ℕ) (vs : List Verdict) → verdicts t m vs ≡ vs → Under t m vs
unfolding verdicts
under t w m [] e = tt
under t w m (v ∷ vs) e = ((verdict-only _ (good t w) _ (kept-joins m t) v).1 (sym (ap front e)), under t w (suc m) vs (ap rest e))
  where
    front : List Verdict → Verdict
    front [] = v
    front (u ∷ us) = u

    rest : List Verdict → List Verdict
    rest [] = []
    rest (u ∷ us) = us

-- of each case, where all agree
each : (cs : List StarredCase) → computed cs ≡ wanted cs → (c : StarredCase) → Memᴰ c cs → CaseHolds c
unfolding computed wanted
each [] e c m = absurd (Memᴰ.not-nil m)
each (d ∷ cs) e c m = elim (Memᴰ.cases_cons m) [ inl q ↦ subst CaseHolds (sym q) (holds d (ap first_of e)) | inr n ↦ each cs (ap rest e) c n ]
  where
    first_of : List Answers → Answers
    first_of [] = (true, MODELS, d.verdicts)
    first_of (a ∷ more) = a

    rest : List Answers → List Answers
    rest [] = []
    rest (a ∷ more) = more

    holds : (c : StarredCase) → ◌≡◌ {A = Answers} (well_formed (trace_of c.ops), length c.verdicts, verdicts (trace_of c.ops) SC c.verdicts) (true, MODELS, c.verdicts) → CaseHolds c
    holds c e =
        let well : So (well_formed (trace_of c.ops)) = ap (λ a. a.0) e in
        record { well = well; every = ap (λ a. a.1) e; under = under (trace_of c.ops) well SC c.verdicts (ap (λ a. a.2) e) }

pub starred : (c : StarredCase) → Memᴰ c cases → CaseHolds c
starred = each cases agree
