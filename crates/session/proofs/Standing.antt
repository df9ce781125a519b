-- What any list of calls comes to: the session made afresh on the records so far, with the pairs still standing.
--
--   kept-allowed, recorded-opens == the pairs that stand after a call are allowed on the trace after it, which opens again
--   act-kept      == one call on a session made afresh
--   act-stays, act-given == a call that is turned back leaves the session as given
--   act-unlike    == so does every call on a session that is not intact
--   opened        == an opening that is done gives the session with no pairs
--   open-blank    == beside a refused opening stands the session of the empty trace under model 1
--   after-afresh  == any list of calls, refused ones and records that are added included
--   after-opened, after-refused == so it goes after any opening, done or refused
--   after-intact  == so no later call on it is turned back as 12, and what Promises says of an intact session holds of it
--   supposed-all  == supposing the pairs of an allowed list in turn leaves that list standing
--   after-again   == hence after any calls the session equals the one opened afresh on the records so far, in which the pairs still standing are
--                    supposed in turn
use mathlib.Core.Path.{◌≡◌, refl, sym, ap, ◌∙◌, subst}
use mathlib.Core.Logic.{inl, inr}
use mathlib.Core.Bool.{Bool, true, false, So, cond, ◌&&◌, false≢true}
use mathlib.Core.List.{List, [], ◌∷◌, ◌++◌, append_assoc, append-nil}
use mathlib.Core.Option.{some}
use Prim.Native.Nat.{ℕ, ◌-◌, ◌<◌}
use native.Mathlib.Omega.{arith}
use lib.Dec.{ltb}
use lib.ListN.{length, get_or, take, length-append}
use lib.Seq.{take_all, get_or-append-add}
use Rattle.laws.proofs.Tests.{off, and-iff, same-iff, so-lt, eq?}
use Rattle.trace.specs.Trace as trace
use Rattle.trace.specs.Trace.{empty}
use Rattle.trace.specs.declared.Op.{Op}
use Rattle.trace.specs.declared.Trace.{Trace}
use Rattle.pairs.specs.Kept.{SC}
use Rattle.session.specs.Bounds.{PAIRS}
use Rattle.session.specs.Stack.{unused, supposable, Allowed, stacked, standing}
use Rattle.session.specs.inner.StackSteps.{pair_pushed, pair_popped}
use Rattle.session.specs.Opening.{opening_of, is_done, openable}
use Rattle.session.specs.Closings.{Closings}
use Rattle.session.specs.Session.{afresh, intact, blank}
use Rattle.session.specs.Entries.{suppose_turn, take_back_turn, joins, add_turn, open_of, suppose_of, take_back_of, ask_of, add_of, waiting_of}
use Rattle.session.specs.Numbers.{refusal_number, Act, supposes, takes_back, asks, adds, awaits, reply_of}
use Rattle.session.specs.Calls.{session_after, pairs_after, recorded, recorded_after, standing_after, suppose_all}
use Rattle.session.specs.declared.Pair.{Pair}
use Rattle.session.specs.declared.Answer.{Answer}
use Rattle.session.specs.declared.Answer.TheVariants.{Done, Held, NotHeld, Contradicted, Waits, Refused}
use Rattle.session.specs.declared.Reply.{Reply}
use Rattle.session.specs.declared.Session.{Session}
use Rattle.session.proofs.Pairs.{supposable-iff, none_allowed, allowed-stands, stands-allowed, standing-stacked, pushed-stands, standing-pushed, popped-stands, standing-popped}
use Rattle.session.proofs.Openings.{empty-opens}
use Rattle.session.proofs.Joining.{joined-opens, joined-allowed}
use Rattle.session.proofs.Sessions.{afresh-standing, afresh-count, afresh-intact}
use Rattle.session.proofs.Answering.{pair-unlike, pair-done, suppose-pair, suppose-done, suppose-allows, back-unlike, back_none, back_done, suppose-taken, suppose-refused, back-taken, back-refused, add-fault, add-unlike, add-taken, add-refused, open_done, open-refused}

-- the session of a reply
abbrev left : Reply → Session
left r = r.session

module _ (t : Trace) where
  -- the test that one pair more is taken
  abbrev takes : List Pair → Pair → Bool
  takes ps p = supposable t p && ltb (length ps) PAIRS

  taken : (ps : List Pair) (p : Pair) → So (takes ps p) → So (supposable t p) × (length ps < PAIRS)
  taken ps p = (and-iff same-iff so-lt).0

  takes-by : (ps : List Pair) (p : Pair) → So (supposable t p) → length ps < PAIRS → So (takes ps p)
  takes-by ps p g h = (and-iff same-iff so-lt).1 (g, h)

  more-allowed : (ps : List Pair) → Allowed t ps → (p : Pair) → So (supposable t p) → length ps < PAIRS → Allowed t (ps ++ p ∷ [])
  unfolding stacked
  more-allowed ps a p g h =
      let k = allowed-stands t ps a in
      subst (λ (qs : List Pair). Allowed t qs) (standing-pushed t (stacked ps) k p h ∙ ap (λ qs. qs ++ p ∷ []) (standing-stacked t ps))
      (stands-allowed t (pair_pushed (stacked ps) p) (pushed-stands t (stacked ps) k p h g))

  fewer-allowed : (ps : List Pair) → Allowed t ps → Allowed t (take (length ps - 1) ps)
  fewer-allowed ps a =
      let k = allowed-stands t ps a in
      subst (λ (qs : List Pair). Allowed t qs) (standing-popped t (stacked ps) k ∙ ap (λ qs. take (length qs - 1) qs) (standing-stacked t ps))
      (stands-allowed t (pair_popped (stacked ps)) (popped-stands t (stacked ps) k))

  pub kept-allowed : (ps : List Pair) → Allowed t ps → (a : Act) → Allowed (recorded t a) (pairs_after t ps a)
  kept-allowed ps al (supposes x y) = go (takes ps p) refl
    where
      p : Pair
      p = record { first = x; second = y }

      go : (b : Bool) → takes ps p ≡ b → Allowed t (cond b (ps ++ p ∷ []) ps)
      go true e = let g = taken ps p e in more-allowed ps al p g.0 g.1
      go false e = al
  kept-allowed ps al takes_back = fewer-allowed ps al
  kept-allowed ps al (asks x y) = al
  kept-allowed ps al (adds o) = go (joins t o) refl
    where
      go : (b : Bool) → joins t o ≡ b → Allowed (cond b (trace.pushed t o) t) ps
      go true e = joined-allowed t o e ps al
      go false e = al
  kept-allowed ps al awaits = al

  pub recorded-opens : (m : ℕ) → So (openable t m) → (a : Act) → So (openable (recorded t a) m)
  recorded-opens m o (supposes x y) = o
  recorded-opens m o takes_back = o
  recorded-opens m o (asks x y) = o
  recorded-opens m o (adds p) = go (joins t p) refl
    where
      go : (b : Bool) → joins t p ≡ b → So (openable (cond b (trace.pushed t p) t) m)
      go true e = joined-opens t p e m o
      go false e = o
  recorded-opens m o awaits = o

  -- a pair of an allowed list is taken
  next-taken : (ps : List Pair) (q : Pair) (qs : List Pair) → Allowed t (ps ++ q ∷ qs) → So (takes ps q)
  next-taken ps q qs al =
      let n = length-append ps (q ∷ qs) in
      let e : get_or (ps ++ q ∷ qs) (length ps) unused ≡ q = ap (λ i. get_or (ps ++ q ∷ qs) i unused) (omega arith) ∙ get_or-append-add ps (q ∷ qs) 0 unused in
      takes-by ps q (subst (λ (p : Pair). So (supposable t p)) e (al.good (length ps) (omega arith))) (omega (arith, al.room))

  pub supposed-all : (qs ps : List Pair) → Allowed t (ps ++ qs) → standing_after t ps (suppose_all qs) ≡ ps ++ qs
  unfolding standing_after suppose_all
  supposed-all [] ps al = sym (append-nil ps)
  supposed-all (q ∷ qs) ps al =
      ap (λ b. standing_after t (cond b (ps ++ q ∷ []) ps) (suppose_all qs)) (next-taken ps q qs al)
      ∙ supposed-all qs (ps ++ q ∷ []) (subst (λ (l : List Pair). Allowed t l) (sym (append_assoc ps (q ∷ []) qs)) al)
      ∙ append_assoc ps (q ∷ []) qs

module _ (C : Closings) (t : Trace) where
  module _ (m : ℕ) (o : So (openable t m)) where
    module _ (ps : List Pair) (al : Allowed t ps) where
      -- the session, and that it passes its test
      abbrev here : Session
      here = afresh C t m ps

      whole : So (intact C here)
      whole = afresh-intact C t m ps o al

      suppose-kept : (x y : ℕ) → left (suppose_of C here x y) ≡ afresh C t m (pairs_after t ps (supposes x y))
      unfolding afresh
      suppose-kept x y = go (takes t ps p) refl
        where
          p : Pair
          p = record { first = x; second = y }

          go : (b : Bool) → takes t ps p ≡ b → left (suppose_of C here x y) ≡ afresh C t m (cond b (ps ++ p ∷ []) ps)
          go true e =
              let g = taken t ps p e in
              let i = (supposable-iff t p).0 g.0 in
              let d = pair-done C here x y whole ((and-iff same-iff same-iff).1 i.0) i.1 in
              let q = suppose-done C here x y (ap is_done d) (omega (arith, afresh-count C t m ps, g.1)) in
              sym (ap left (suppose-taken C here x y (suppose_turn C here x y) refl (ap is_done q) (afresh C t m (standing here.stack ++ p ∷ [])) refl))
              ∙ ap (λ qs. afresh C t m (qs ++ p ∷ [])) (afresh-standing C t m ps)
          go false e =
              let n = off (λ s. let r = suppose-allows C here x y s in false≢true (sym e ∙ takes-by t ps p r.1 (omega (arith, afresh-count C t m ps, r.2)))) in
              sym (ap left (suppose-refused C here x y (suppose_turn C here x y) refl n))

      back-kept : left (take_back_of C here) ≡ afresh C t m (take (length ps - 1) ps)
      unfolding afresh
      back-kept = elim (eq? here.stack.count 0) [
        | inl e ↦
            sym (ap left (back-refused C here (take_back_turn C here) refl (ap is_done (back_none C here whole e))))
            ∙ ap (afresh C t m) (sym (take_all (length ps - 1) ps (omega (arith, afresh-count C t m ps))))
        | inr d ↦
            sym (ap left (back-taken C here (take_back_turn C here) refl (ap is_done (back_done C here whole d)) _ refl))
            ∙ ap (λ qs. afresh C t m (take (length qs - 1) qs)) (afresh-standing C t m ps)
      ]

      add_kept : (p : Op) → left (add_of C here p) ≡ afresh C (recorded t (adds p)) m ps
      unfolding afresh joins
      add_kept p = go (joins t p) refl
        where
          turns : is_done (add_turn C here p) ≡ joins t p
          turns = ap is_done (add-fault C here p whole)

          go : (b : Bool) → joins t p ≡ b → left (add_of C here p) ≡ afresh C (cond b (trace.pushed t p) t) m ps
          go true e =
              sym (ap left (add-taken C here p (add_turn C here p) refl (turns ∙ e) (afresh C (trace.pushed t p) m (standing here.stack)) refl))
              ∙ ap (afresh C (trace.pushed t p) m) (afresh-standing C t m ps)
          go false e = sym (ap left (add-refused C here p (add_turn C here p) refl (turns ∙ e)))

      pub act-kept : (a : Act) → left (reply_of C here a) ≡ afresh C (recorded t a) m (pairs_after t ps a)
      unfolding ask_of waiting_of
      act-kept (supposes x y) = suppose-kept x y
      act-kept takes_back = back-kept
      act-kept (asks x y) = refl
      act-kept (adds p) = add_kept p
      act-kept awaits = refl

    pub opened : left (open_of C t m) ≡ afresh C t m []
    unfolding openable
    opened = sym (ap left (open_done C t m (opening_of t m) refl o (afresh C t m []) refl))

-- ---- any list of calls, over a trace that may grow
pub after-afresh : (C : Closings) (m : ℕ) (cs : List Act) (t : Trace) → So (openable t m) → (ps : List Pair) → Allowed t ps
    → session_after C (afresh C t m ps) cs ≡ afresh C (recorded_after t cs) m (standing_after t ps cs)
unfolding session_after standing_after recorded_after
after-afresh C m [] t o ps al = refl
after-afresh C m (a ∷ cs) t o ps al =
    ap (λ s. session_after C s cs) (act-kept C t m o ps al a) ∙ after-afresh C m cs (recorded t a) (recorded-opens t m o a) (pairs_after t ps a) (kept-allowed t ps al a)

pub standing-allowed : (cs : List Act) (t : Trace) (ps : List Pair) → Allowed t ps → Allowed (recorded_after t cs) (standing_after t ps cs)
unfolding standing_after recorded_after
standing-allowed [] t ps al = al
standing-allowed (a ∷ cs) t ps al = standing-allowed cs (recorded t a) (pairs_after t ps a) (kept-allowed t ps al a)

pub after-opens : (m : ℕ) (cs : List Act) (t : Trace) → So (openable t m) → So (openable (recorded_after t cs) m)
unfolding recorded_after
after-opens m [] t o = o
after-opens m (a ∷ cs) t o = after-opens m cs (recorded t a) (recorded-opens t m o a)

-- supposing adds no record
supposing-records : (qs : List Pair) (t : Trace) → recorded_after t (suppose_all qs) ≡ t
unfolding recorded_after suppose_all
supposing-records [] t = refl
supposing-records (q ∷ qs) t = supposing-records qs t

module _ (C : Closings) (t : Trace) (m : ℕ) (o : So (openable t m)) (cs : List Act) where
  pub after-opened : session_after C (left (open_of C t m)) cs ≡ afresh C (recorded_after t cs) m (standing_after t [] cs)
  after-opened = ap (λ s. session_after C s cs) (opened C t m o) ∙ after-afresh C m cs t o [] (none_allowed t)

  pub after-intact : So (intact C (session_after C (left (open_of C t m)) cs))
  after-intact =
      subst (λ (s : Session). So (intact C s)) (sym after-opened)
      (afresh-intact C (recorded_after t cs) m (standing_after t [] cs) (after-opens m cs t o) (standing-allowed cs t [] (none_allowed t)))

pub after-again : (C : Closings) (t : Trace) (m : ℕ) → So (openable t m) → (cs : List Act)
    → session_after C (left (open_of C t m)) cs ≡ session_after C (left (open_of C (recorded_after t cs) m)) (suppose_all (standing_after t [] cs))
after-again C t m o cs =
    let u = recorded_after t cs in
    let ps = standing_after t [] cs in
    after-opened C t m o cs
    ∙ sym
    (after-opened C u m (after-opens m cs t o) (suppose_all ps)
    ∙ ap (λ v. afresh C v m (standing_after u [] (suppose_all ps))) (supposing-records ps u)
    ∙ ap (afresh C u m) (supposed-all u ps [] (standing-allowed cs t [] (none_allowed t))))

-- an answer with a number is not done
not_done : (a : Answer) (n : ℕ) → refusal_number a ≡ some n → is_done a ≡ false
not_done Done n e = let z : ◌≡◌ {A = ℕ} 0 1 = cc in absurd (omega arith)
not_done Held n e = refl
not_done NotHeld n e = refl
not_done Contradicted n e = refl
not_done (Waits x) n e = refl
not_done (Refused r) n e = refl

module _ (C : Closings) where
  pub open-blank : (t : Trace) (m : ℕ) → openable t m ≡ false → left (open_of C t m) ≡ blank C
  unfolding openable
  open-blank t m n = sym (ap left (open-refused C t m (opening_of t m) refl n (blank C) refl))

  pub after-refused : (t : Trace) (m : ℕ) → openable t m ≡ false → (cs : List Act) → session_after C (left (open_of C t m)) cs ≡ afresh C (recorded_after empty cs) SC (standing_after empty [] cs)
  after-refused t m n cs = ap (λ s. session_after C s cs) (open-blank t m n) ∙ after-afresh C SC cs empty empty-opens [] (none_allowed empty)

  pub act-stays : (s : Session) (a : Act) → is_done (reply_of C s a).answer ≡ false → left (reply_of C s a) ≡ s
  unfolding suppose_of take_back_of ask_of add_of waiting_of
  act-stays s (supposes x y) e = sym (ap left (suppose-refused C s x y (suppose_turn C s x y) refl e))
  act-stays s takes_back e = sym (ap left (back-refused C s (take_back_turn C s) refl e))
  act-stays s (asks x y) e = refl
  act-stays s (adds p) e = sym (ap left (add-refused C s p (add_turn C s p) refl e))
  act-stays s awaits e = refl

  pub act-given : (s : Session) (a : Act) (n : ℕ) → refusal_number (reply_of C s a).answer ≡ some n → left (reply_of C s a) ≡ s
  act-given s a n e = act-stays s a (not_done (reply_of C s a).answer n e)

  pub act-unlike : (s : Session) → intact C s ≡ false → (a : Act) → left (reply_of C s a) ≡ s
  unfolding ask_of waiting_of
  act-unlike s n (supposes x y) =
      let e = pair-unlike C s x y n in
      let u = suppose-pair C s x y (ap is_done e) ∙ e in
      sym (ap left (suppose-refused C s x y (suppose_turn C s x y) refl (ap is_done u)))
  act-unlike s n takes_back = sym (ap left (back-refused C s (take_back_turn C s) refl (ap is_done (back-unlike C s n))))
  act-unlike s n (asks x y) = refl
  act-unlike s n (adds p) = sym (ap left (add-refused C s p (add_turn C s p) refl (ap is_done (add-unlike C s p n))))
  act-unlike s n awaits = refl
