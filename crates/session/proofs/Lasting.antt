-- Every session that is handed back is intact; a call changes its trace by the record that it adds alone, and its model not at all.
--
--   blank-intact, blank-opened == the session beside a refusal, which is that of an opening too
--   made-intact   == one made afresh from its parts
--   opened-intact == one beside any opening
--   act-intact, act-trace, act-model == one after a call on an intact session
use mathlib.Core.Path.{◌≡◌, refl, sym, ap, ◌∙◌, subst}
use mathlib.Core.Logic.{inl, inr}
use mathlib.Core.Bool.{◌&&◌}
use mathlib.Core.List.{[]}
use Prim.Native.Nat.{ℕ}
use Rattle.laws.proofs.Tests.{test, and-iff, same-iff}
use Rattle.trace.specs.Trace.{empty}
use Rattle.trace.specs.declared.Trace.{Trace}
use Rattle.pairs.specs.Kept.{SC}
use Rattle.session.specs.Stack.{standing, stands}
use Rattle.session.specs.Opening.{openable}
use Rattle.session.specs.Closings.{Closings}
use Rattle.session.specs.Session.{afresh, Intact, blank}
use Rattle.session.specs.Entries.{open_of, afresh_of}
use Rattle.session.specs.Numbers.{Act, reply_of}
use Rattle.session.specs.Calls.{pairs_after, recorded}
use Rattle.session.specs.declared.Stack.{Stack}
use Rattle.session.specs.declared.Session.{Session}
use Rattle.session.specs.declared.Reply.{Reply}
use Rattle.session.proofs.Pairs.{stands-iff, stands-allowed, none_allowed}
use Rattle.session.proofs.Openings.{empty-opens}
use Rattle.session.proofs.Sessions.{intact-iff, afresh-intact}
use Rattle.session.proofs.Answering.{afresh-done, afresh-unlike}
use Rattle.session.proofs.Standing.{kept-allowed, recorded-opens, act-kept, opened, open-blank}

-- the session of a reply
abbrev left : Reply → Session
left r = r.session

module _ (C : Closings) where
  pub blank-intact : Intact C (blank C)
  blank-intact = (intact-iff C (blank C)).0 (afresh-intact C empty SC [] empty-opens (none_allowed empty))

  pub blank-opened : (open_of C empty SC).session ≡ blank C
  blank-opened = opened C empty SC empty-opens

  pub made-intact : (t : Trace) (m : ℕ) (k : Stack) → Intact C (afresh_of C t m k).session
  made-intact t m k = elim (test (openable t m && stands t k)) [
    | inl d ↦
        let p = (and-iff same-iff (stands-iff t k)).0 d in
        subst (λ (s : Session). Intact C s) (ap left (afresh-done C t m k d (afresh C t m (standing k)) refl))
        ((intact-iff C (afresh C t m (standing k))).0 (afresh-intact C t m (standing k) p.0 (stands-allowed t k p.1)))
    | inr n ↦ subst (λ (s : Session). Intact C s) (ap left (afresh-unlike C t m k n (blank C) refl)) blank-intact
  ]

  pub opened-intact : (t : Trace) (m : ℕ) → Intact C (open_of C t m).session
  opened-intact t m = elim (test (openable t m)) [
    | inl o ↦ subst (λ (s : Session). Intact C s) (sym (opened C t m o)) ((intact-iff C (afresh C t m [])).0 (afresh-intact C t m [] o (none_allowed t)))
    | inr n ↦ subst (λ (s : Session). Intact C s) (sym (open-blank C t m n)) blank-intact
  ]

  module _ (s : Session) (i : Intact C s) (a : Act) where
    -- the session after the call, made afresh
    act-again : (reply_of C s a).session ≡ afresh C (recorded s.trace a) s.model (pairs_after s.trace (standing s.stack) a)
    act-again = ap (λ x. (reply_of C x a).session) i.same ∙ act-kept C s.trace s.model i.opens (standing s.stack) i.allowed a

    pub act-intact : Intact C (reply_of C s a).session
    act-intact =
        let ps = pairs_after s.trace (standing s.stack) a in
        subst (λ (x : Session). Intact C x) (sym act-again)
        ((intact-iff C (afresh C (recorded s.trace a) s.model ps)).0
        (afresh-intact C (recorded s.trace a) s.model ps (recorded-opens s.trace s.model i.opens a) (kept-allowed s.trace (standing s.stack) i.allowed a)))

    pub act-trace : (reply_of C s a).session.trace ≡ recorded s.trace a
    unfolding afresh
    act-trace = ap (λ x. x.trace) act-again

    pub act-model : (reply_of C s a).session.model ≡ s.model
    unfolding afresh
    act-model = ap (λ x. x.model) act-again
