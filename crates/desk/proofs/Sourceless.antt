-- The record that waits in a session, and the verdict on the same trace under the same model.
--
--   waits-told == a session tells that a record waits exactly where the verdict on its records so far is no source, with the verdict's record
use mathlib.Core.Path.{◌≡◌, sym, ap, ◌∙◌, subst}
use mathlib.Core.Logic.{◌↔◌}
use mathlib.Core.Option.{Option, none, some}
use Prim.Native.Nat.{ℕ}
use native.Mathlib.Omega.{arith}
use Rattle.laws.specs.Lowest.{Lowest}
use Rattle.laws.specs.Relation.{Table}
use Rattle.rules.specs.Frame.{Frame}
use Rattle.trace.specs.Meaning.{frame_of}
use Rattle.rules.specs.Missing.{Missing}
use Rattle.pairs.specs.Kept.{kept_of}
use Rattle.rules.specs.Verdict as said
use Rattle.rules.proofs.Says.{verdict-one}
use Rattle.verdict.specs.VerdictOf.{laid, Told}
use Rattle.verdict.specs.declared.Outcome.{Outcome}
use Rattle.verdict.specs.declared.Outcome.TheVariants.{NoSource, Circle, Order, NoneLeft, NoModel, NotWellFormed}
use Rattle.verdict.specs.declared.Verdict.{Verdict}
use Rattle.session.specs.Closings.{Closings}
use Rattle.session.specs.Session.{Intact}
use Rattle.session.specs.Entries.{waiting_of}
use Rattle.session.specs.declared.Answer.TheVariants.{Waits}
use Rattle.session.specs.declared.Session.{Session}
use Rattle.session.proofs.Openings.{openable-iff}
use Rattle.session.proofs.Promises.{waits-says}

-- the record that an outcome names
abbrev lacks : Outcome → Option ℕ
lacks (NoSource x) = some x
lacks Circle = none
lacks Order = none
lacks NoneLeft = none
lacks NoModel = none
lacks NotWellFormed = none

none-some : {x : ℕ} → ◌≡◌ {A = Option ℕ} none (some x) → ⊥
none-some {x} e = let z : ◌≡◌ {A = ℕ} 0 1 = ap (λ (o : Option ℕ). elim o [ some y ↦ 1 | none ↦ 0 ]) e in omega arith

module _ (C : Closings) (s : Session) (i : Intact C s) (r : Verdict) (told : Told s.trace s.model r) where
  -- the trace and the model, which open a session
  abbrev frame : Frame
  frame = frame_of s.trace

  abbrev keeping : Table
  keeping = kept_of s.model s.trace

  -- the verdict that is told
  spoken : (v : said.Verdict) × said.Says frame keeping v × (r ≡ laid v)
  spoken = let o = (openable-iff s.trace s.model).0 i.opens in told.says o.model o.form

  module _ (x : ℕ) (e : r.outcome ≡ NoSource x) where
    -- the record, where the verdict is known
    named : (v : Verdict) → r ≡ v → lacks v.outcome ≡ some x
    named v d = ap (λ (u : Verdict). lacks u.outcome) (sym d) ∙ ap lacks e

    lowest-named : (v : said.Verdict) → said.Says frame keeping v → r ≡ laid v → Lowest (Missing frame) (some x)
    lowest-named (said.no_source y) q d = subst (λ (o : Option ℕ). Lowest (Missing frame) o) (named (laid (said.no_source y)) d) q
    lowest-named (said.circle c rs) q d = absurd (none-some (named (laid (said.circle c rs)) d))
    lowest-named (said.order xs) q d = absurd (none-some (named (laid (said.order xs)) d))
    lowest-named said.none_left q d = absurd (none-some (named (laid said.none_left) d))

  pub waits-told : (x : ℕ) → ((waiting_of C s).answer ≡ Waits x) ↔ (r.outcome ≡ NoSource x)
  waits-told x = (
    λ e.
        let v = spoken in
        ap (λ (u : Verdict). u.outcome) (v.2 ∙ ap laid (verdict-one frame keeping v.0 (said.no_source x) v.1 ((waits-says s C i x).0 e))),
    λ e. let v = spoken in (waits-says s C i x).1 (lowest-named x e v.0 v.1 v.2),
  )
