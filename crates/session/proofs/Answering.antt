-- What the calls answer, case by case.
--
--   pair-unlike, pair-fence, pair_one, pair-done   == whether a session takes a pair to speak of
--   suppose-pair, suppose-full, suppose-done       == whether it takes one more
--   back-unlike, back_none, back_done              == whether it has one to take back
--   told-contradicted, told-bit                    == what its table says
--   add-unlike, add-fault                          == whether it takes one record more
--   pair-allows, suppose-allows, back-allows, add-allows == what is so where nothing was turned back
--   afresh-done, afresh-unlike, afresh-allows      == a session from its parts
--   open_done, open-refused, suppose-taken, suppose-refused, back-taken, back-refused, ask-told, ask-refused, add-taken, add-refused,
--   waiting-told, waiting-unlike == the calls as a whole
use mathlib.Core.Path.{◌≡◌, refl, sym, ap, ◌∙◌}
use mathlib.Core.Logic.{◌≢◌}
use mathlib.Core.Bool.{Bool, true, false, So, cond, ◌&&◌, false≢true}
use mathlib.Core.List.{[], ◌∷◌, ◌++◌}
use Prim.Native.Nat.{ℕ, ◌-◌, ◌≤◌, ◌<◌}
use lib.Dec.{eqb, leb}
use lib.ListN.{length, take}
use borrow.Author.Tests.{eq-eqb, ne_eqb, eqb-false, le-leb, lt-leb, leb-false}
use Rattle.laws.proofs.Tests.{and-iff, same-iff}
use Rattle.trace.specs.Trace as trace
use Rattle.trace.specs.Fault.{fault_of}
use Rattle.trace.specs.Meaning.{frame_of}
use Rattle.trace.specs.declared.Op.{Op}
use Rattle.trace.specs.declared.Trace.{Trace}
use Rattle.rows.specs.Rows.{bit}
use Rattle.pairs.specs.MissingOf.{missing_of}
use Rattle.session.specs.Bounds.{PAIRS}
use Rattle.session.specs.Stack.{supposable, standing, stands}
use Rattle.session.specs.Opening.{opening_of, is_done, openable}
use Rattle.session.specs.Closings.{Closings}
use Rattle.session.specs.Session.{afresh, intact, Intact, blank}
use Rattle.session.specs.Entries.{pair_turn, suppose_turn, take_back_turn, told_of, fault_answer, joins, add_turn, waits_of, open_of, afresh_of, suppose_of, take_back_of, ask_of, add_of, waiting_of}
use Rattle.session.specs.declared.Reason.TheVariants.{Unlike, NoOperation, OneRecord, TooManyPairs, NoPair}
use Rattle.session.specs.declared.Answer.{Answer}
use Rattle.session.specs.declared.Answer.TheVariants.{Done, Held, NotHeld, Contradicted, Refused}
use Rattle.session.specs.declared.Stack.{Stack}
use Rattle.session.specs.declared.Session.{Session}
use Rattle.session.specs.declared.Reply.{Reply}
use Rattle.session.proofs.Pairs.{supposable-iff}
use Rattle.session.proofs.Sessions.{intact-iff}

-- a choice between an answer and a refusal
done-where : (b : Bool) (a r : Answer) → is_done r ≡ false → So (is_done (cond b a r)) → So b × So (is_done a)
done-where true a r n s = (refl, s)
done-where false a r n s = absurd (false≢true (sym n ∙ s))

done-unless : (b : Bool) (a r : Answer) → is_done r ≡ false → So (is_done (cond b r a)) → (b ≡ false) × So (is_done a)
done-unless true a r n s = absurd (false≢true (sym n ∙ s))
done-unless false a r n s = (refl, s)

done-after : (a r : Answer) → So (is_done (cond (is_done a) r a)) → So (is_done a) × So (is_done r)
done-after a r = go (is_done a) refl
  where
    go : (b : Bool) → is_done a ≡ b → So (is_done (cond b r a)) → So (is_done a) × So (is_done r)
    go true e s = (e, s)
    go false e s = absurd (false≢true (sym e ∙ s))

-- an answer and a session
abbrev both : Answer → Session → Reply
both a s = record { answer = a; session = s }

module _ (s : Session) (x y : ℕ) where
  pub told-contradicted : So s.contradicted → told_of s x y ≡ Contradicted
  unfolding told_of
  told-contradicted e = rw e refl

  pub told-bit : s.contradicted ≡ false → told_of s x y ≡ cond (bit s.held x y) Held NotHeld
  unfolding told_of
  told-bit e = rw e refl

module _ (C : Closings) (s : Session) where
  module _ (x y : ℕ) where
    abbrev Operations : Bool
    Operations = (frame_of s.trace).operation x && (frame_of s.trace).operation y

    pub pair-unlike : intact C s ≡ false → pair_turn C s x y ≡ Refused Unlike
    unfolding pair_turn
    pair-unlike e = rw e refl

    pub pair-fence : So (intact C s) → Operations ≡ false → pair_turn C s x y ≡ Refused NoOperation
    unfolding pair_turn
    pair-fence i e = rw (i, e) refl

    pub pair_one : So (intact C s) → So Operations → x ≡ y → pair_turn C s x y ≡ Refused OneRecord
    unfolding pair_turn
    pair_one i o e = rw (i, o, eq-eqb x y e) refl

    pub pair-done : So (intact C s) → So Operations → x ≢ y → pair_turn C s x y ≡ Done
    unfolding pair_turn
    pair-done i o d = rw (i, o, ne_eqb x y d) refl

    pub pair-allows : So (is_done (pair_turn C s x y)) → Intact C s × So (supposable s.trace (record { first = x; second = y }))
    unfolding pair_turn
    pair-allows h =
        let a = done-where (intact C s) _ (Refused Unlike) refl h in
        let b = done-where Operations _ (Refused NoOperation) refl a.1 in
        let c = done-unless (eqb x y) Done (Refused OneRecord) refl b.1 in
        ((intact-iff C s).0 a.0, (supposable-iff s.trace (record { first = x; second = y })).1 ((and-iff same-iff same-iff).0 b.0, eqb-false x y c.0))

    pub suppose-pair : is_done (pair_turn C s x y) ≡ false → suppose_turn C s x y ≡ pair_turn C s x y
    unfolding suppose_turn
    suppose-pair e = rw e refl

    pub suppose-full : So (is_done (pair_turn C s x y)) → PAIRS ≤ s.stack.count → suppose_turn C s x y ≡ Refused TooManyPairs
    unfolding suppose_turn
    suppose-full e h = rw (e, le-leb PAIRS s.stack.count h) refl

    pub suppose-done : So (is_done (pair_turn C s x y)) → s.stack.count < PAIRS → suppose_turn C s x y ≡ Done
    unfolding suppose_turn
    suppose-done e h = rw (e, lt-leb PAIRS s.stack.count h) refl

    pub suppose-allows : So (is_done (suppose_turn C s x y)) → Intact C s × So (supposable s.trace (record { first = x; second = y })) × (s.stack.count < PAIRS)
    unfolding suppose_turn
    suppose-allows h =
        let a = done-after (pair_turn C s x y) _ h in
        let b = done-unless (leb PAIRS s.stack.count) Done (Refused TooManyPairs) refl a.1 in
        let c = pair-allows a.0 in
        (c.0, c.1, leb-false PAIRS s.stack.count b.0)

    module _ (a : Answer) (e : a ≡ suppose_turn C s x y) where
      pub suppose-refused : is_done a ≡ false → both a s ≡ suppose_of C s x y
      unfolding suppose_of
      suppose-refused n = rw (← e, n) refl

      pub suppose-taken : So (is_done a) → (s' : Session) → s' ≡ afresh C s.trace s.model (standing s.stack ++ record { first = x; second = y } ∷ []) → both a s' ≡ suppose_of C s x y
      unfolding suppose_of
      suppose-taken d s' q = rw (← e, d) (ap (both a) q)

    module _ (a : Answer) (e : a ≡ pair_turn C s x y) where
      pub ask-refused : is_done a ≡ false → both a s ≡ ask_of C s x y
      unfolding ask_of
      ask-refused n = rw (← e, n) refl

      pub ask-told : So (is_done a) → (b : Answer) → b ≡ told_of s x y → both b s ≡ ask_of C s x y
      unfolding ask_of
      ask-told d b q = rw (← e, d) (ap (λ c. both c s) q)

  module _ (o : Op) where
    pub add-unlike : intact C s ≡ false → add_turn C s o ≡ Refused Unlike
    unfolding add_turn
    add-unlike e = rw e refl

    pub add-fault : So (intact C s) → add_turn C s o ≡ fault_answer (fault_of s.trace o)
    unfolding add_turn
    add-fault i = rw i refl

    pub add-allows : So (is_done (add_turn C s o)) → Intact C s × So (joins s.trace o)
    unfolding add_turn joins
    add-allows h = let a = done-where (intact C s) _ (Refused Unlike) refl h in ((intact-iff C s).0 a.0, a.1)

    module _ (a : Answer) (e : a ≡ add_turn C s o) where
      pub add-refused : is_done a ≡ false → both a s ≡ add_of C s o
      unfolding add_of
      add-refused n = rw (← e, n) refl

      pub add-taken : So (is_done a) → (s' : Session) → s' ≡ afresh C (trace.pushed s.trace o) s.model (standing s.stack) → both a s' ≡ add_of C s o
      unfolding add_of
      add-taken d s' q = rw (← e, d) (ap (both a) q)

  pub waiting-unlike : intact C s ≡ false → both (Refused Unlike) s ≡ waiting_of C s
  unfolding waiting_of
  waiting-unlike n = rw n refl

  pub waiting-told : So (intact C s) → (a : Answer) → a ≡ waits_of (missing_of s.trace) → both a s ≡ waiting_of C s
  unfolding waiting_of
  waiting-told i a q = rw i (ap (λ b. both b s) q)

  pub back-unlike : intact C s ≡ false → take_back_turn C s ≡ Refused Unlike
  unfolding take_back_turn
  back-unlike e = rw e refl

  pub back_none : So (intact C s) → s.stack.count ≡ 0 → take_back_turn C s ≡ Refused NoPair
  unfolding take_back_turn
  back_none i e = rw (i, eq-eqb s.stack.count 0 e) refl

  pub back_done : So (intact C s) → s.stack.count ≢ 0 → take_back_turn C s ≡ Done
  unfolding take_back_turn
  back_done i d = rw (i, ne_eqb s.stack.count 0 d) refl

  pub back-allows : So (is_done (take_back_turn C s)) → Intact C s × (s.stack.count ≢ 0)
  unfolding take_back_turn
  back-allows h =
      let a = done-where (intact C s) _ (Refused Unlike) refl h in
      let b = done-unless (eqb s.stack.count 0) Done (Refused NoPair) refl a.1 in
      ((intact-iff C s).0 a.0, eqb-false s.stack.count 0 b.0)

  module _ (a : Answer) (e : a ≡ take_back_turn C s) where
    pub back-refused : is_done a ≡ false → both a s ≡ take_back_of C s
    unfolding take_back_of
    back-refused n = rw (← e, n) refl

    pub back-taken : So (is_done a) → (s' : Session) → s' ≡ afresh C s.trace s.model (take (length (standing s.stack) - 1) (standing s.stack)) → both a s' ≡ take_back_of C s
    unfolding take_back_of
    back-taken d s' q = rw (← e, d) (ap (both a) q)

module _ (C : Closings) (t : Trace) (m : ℕ) (a : Answer) (e : a ≡ opening_of t m) where
  pub open_done : So (is_done a) → (s : Session) → s ≡ afresh C t m [] → both a s ≡ open_of C t m
  unfolding open_of
  open_done d s q = rw (← e, d) (ap (both a) q)

  pub open-refused : is_done a ≡ false → (s : Session) → s ≡ blank C → both a s ≡ open_of C t m
  unfolding open_of
  open-refused n s q = rw (← e, n) (ap (both a) q)

module _ (C : Closings) (t : Trace) (m : ℕ) (k : Stack) where
  pub afresh-done : So (openable t m && stands t k) → (s : Session) → s ≡ afresh C t m (standing k) → both Done s ≡ afresh_of C t m k
  unfolding afresh_of
  afresh-done d s q = rw d (ap (both Done) q)

  pub afresh-unlike : (openable t m && stands t k) ≡ false → (s : Session) → s ≡ blank C → both (Refused Unlike) s ≡ afresh_of C t m k
  unfolding afresh_of
  afresh-unlike n s q = rw n (ap (both (Refused Unlike)) q)

  pub afresh-allows : So (is_done (afresh_of C t m k).answer) → So (openable t m && stands t k)
  unfolding afresh_of
  afresh-allows = go (openable t m && stands t k)
    where
      go : (b : Bool) → So (is_done (cond b (both Done (afresh C t m (standing k))) (both (Refused Unlike) (blank C))).answer) → So b
      go true s = refl
      go false s = absurd (false≢true s)
