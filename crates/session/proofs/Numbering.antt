-- The number under which a call is turned back is the lowest that applies, and there is none exactly where none applies.
--
--   number-lowest == so it is of every call: an opening, a session asked for from its parts, an act on any session value whatever
use mathlib.Core.Path.{◌≡◌, refl, sym, ap, ◌∙◌, subst}
use mathlib.Core.Logic.{◌≢◌, inl, inr}
use mathlib.Core.Bool.{Bool, true, false, So, cond, ◌&&◌, false≢true}
use mathlib.Core.Option.{none}
use Prim.Native.Nat.{ℕ, ◌≤◌, ◌<◌}
use native.Mathlib.Decide.{dec_lt}
use native.Mathlib.Omega.{arith}
use Rattle.laws.specs.Lowest.{Lowest}
use Rattle.laws.proofs.Tests.{test, and-iff, same-iff, eq?}
use Rattle.trace.specs.WellFormed.{well_formed}
use Rattle.trace.specs.Fault.{fault_number, Wrong, Lower, Earns, fault_of}
use Rattle.trace.specs.Meaning.{frame_of}
use Rattle.trace.specs.declared.Op.{Op}
use Rattle.trace.specs.declared.Fault.{Fault}
use Rattle.trace.specs.declared.Fault.TheVariants as fault
use Rattle.trace.specs.declared.Trace.{Trace}
use Rattle.trace.proofs.Faults.{fault-exactly}
use Rattle.rows.specs.Rows.{bit}
use Rattle.pairs.specs.Kept.{modelled}
use Rattle.pairs.specs.MissingOf.{missing_of}
use Rattle.pairs.specs.Found.{Found}
use Rattle.std.specs.Prelude.{Some, None, Option}
use Rattle.session.specs.Bounds.{PAIRS}
use Rattle.session.specs.Stack.{standing, stands, Stands}
use Rattle.session.specs.Opening.{opening_of, is_done, openable}
use Rattle.session.specs.Closings.{Closings}
use Rattle.session.specs.Session.{afresh, intact, Intact, blank}
use Rattle.session.specs.Entries.{pair_turn, suppose_turn, take_back_turn, told_of, fault_answer, add_turn, waits_of, open_of, afresh_of, suppose_of, take_back_of, ask_of, add_of, waiting_of}
use Rattle.session.specs.Numbers.{refusal_number, Act, supposes, takes_back, asks, adds, awaits, Call, opens, makes, does, Names, supposed, asked, Applies, nine, ten, twelve, unmade, thirteen, fourteen, fifteen, sixteen, faulty, answer_of}
use Rattle.session.specs.declared.Reason.TheVariants.{Unlike}
use Rattle.session.specs.declared.Answer.{Answer}
use Rattle.session.specs.declared.Answer.TheVariants.{Held, NotHeld, Contradicted, Refused}
use Rattle.session.specs.declared.Stack.{Stack}
use Rattle.session.specs.declared.Session.{Session}
use Rattle.session.specs.declared.Reply.{Reply}
use Rattle.session.proofs.Pairs.{stands-iff}
use Rattle.session.proofs.Openings.{opening-nine, opening-ten, opening-asks}
use Rattle.session.proofs.Sessions.{intact-iff}
use Rattle.session.proofs.Answering.{afresh-done, afresh-unlike, pair-unlike, pair-fence, pair_one, pair-done, suppose-pair, suppose-full, suppose-done, back-unlike, back_none, back_done, add-unlike, add-fault, waiting-unlike, waiting-told}

-- an answer is right for a call
abbrev Right : Closings → Call → Answer → Type 0
Right C c a = Lowest (Applies C c) (refusal_number a)

module _ (C : Closings) (t : Trace) (m : ℕ) where
  from-nine : (n : ℕ) → Applies C (opens t m) n → 9 ≤ n
  from-nine n (nine h) = omega arith
  from-nine n (ten h) = omega arith

  from-ten : So (modelled m) → (n : ℕ) → Applies C (opens t m) n → 10 ≤ n
  from-ten s n (nine h) = absurd (h s)
  from-ten s n (ten h) = omega arith

  none-opens : So (modelled m) → So (well_formed t) → (n : ℕ) → Applies C (opens t m) n → ⊥
  none-opens s w n (nine h) = h s
  none-opens s w n (ten h) = h w

  opening-right : Right C (opens t m) (opening_of t m)
  opening-right = elim (test (modelled m)) [
    | inr n ↦ subst (Right C (opens t m)) (sym (opening-nine t m n)) (nine (λ s. false≢true (sym n ∙ s)), from-nine)
    | inl s ↦ elim (test (well_formed t)) [
      | inr n ↦ subst (Right C (opens t m)) (sym (opening-ten t m s n)) (ten (λ w. false≢true (sym n ∙ w)), from-ten s)
      | inl w ↦ subst (Right C (opens t m)) (sym (opening-asks t m s w)) (none-opens s w)
    ]
  ]

module _ (C : Closings) (t : Trace) (m : ℕ) (k : Stack) where
  from_parts : (n : ℕ) → Applies C (makes t m k) n → 12 ≤ n
  from_parts n (unmade h) = omega arith

  none-makes : So (openable t m) × Stands t k → (n : ℕ) → Applies C (makes t m k) n → ⊥
  none-makes s n (unmade h) = h s

  made-right : Right C (makes t m k) (afresh_of C t m k).answer
  made-right = elim (test (openable t m && stands t k)) [
    | inl d ↦ subst (λ (r : Reply). Right C (makes t m k) r.answer) (afresh-done C t m k d (afresh C t m (standing k)) refl) (none-makes ((and-iff same-iff (stands-iff t k)).0 d))
    | inr n ↦ subst (λ (r : Reply). Right C (makes t m k) r.answer) (afresh-unlike C t m k n (blank C) refl) (unmade (λ s. false≢true (sym n ∙ (and-iff same-iff (stands-iff t k)).1 s)), from_parts)
  ]

-- an act that adds no record
abbrev Still : Act → Type 0
Still (supposes x y) = Unit {0}
Still takes_back = Unit {0}
Still (asks x y) = Unit {0}
Still (adds o) = ⊥
Still awaits = Unit {0}

module _ (C : Closings) (s : Session) where
  from-twelve : (Intact C s → ⊥) → (a : Act) (n : ℕ) → Applies C (does s a) n → 12 ≤ n
  from-twelve out a n (twelve h) = omega arith
  from-twelve out a n (thirteen v h) = omega arith
  from-twelve out a n (fourteen v) = omega arith
  from-twelve out a n (fifteen h) = omega arith
  from-twelve out a n (sixteen h) = omega arith
  from-twelve out a n (faulty f i w) = absurd (out i)

  from-thirteen : So (intact C s) → (a : Act) → Still a → (n : ℕ) → Applies C (does s a) n → 13 ≤ n
  from-thirteen i a q n (twelve h) = absurd (h ((intact-iff C s).0 i))
  from-thirteen i a q n (thirteen v h) = omega arith
  from-thirteen i a q n (fourteen v) = omega arith
  from-thirteen i a q n (fifteen h) = omega arith
  from-thirteen i a q n (sixteen h) = omega arith
  from-thirteen i a q n (faulty f _ w) = absurd q

  unlike-right : intact C s ≡ false → (a : Act) → Right C (does s a) (Refused Unlike)
  unlike-right n a = let out : Intact C s → ⊥ = λ i. false≢true (sym n ∙ (intact-iff C s).1 i) in (twelve out, from-twelve out a)

  module _ (x y : ℕ) where
    -- an act speaks of x and y, and of no others
    abbrev Only : Act → Type 0
    Only a = (u v : ℕ) → Names a u v → (u ≡ x) × (v ≡ y)

    abbrev Operations : Type 0
    Operations = So ((frame_of s.trace).operation x) × So ((frame_of s.trace).operation y)

    -- so 13 does not apply, and neither does 14
    not-thirteen : Operations → (a : Act) → Only a → {u v : ℕ} → Names a u v → (So ((frame_of s.trace).operation u) × So ((frame_of s.trace).operation v) → ⊥) → ⊥
    not-thirteen o a only {u} {v} w h = let e = only u v w in h (rw e.0 o.0, rw e.1 o.1)

    not-fourteen : x ≢ y → (a : Act) → Only a → {u : ℕ} → Names a u u → ⊥
    not-fourteen d a only {u} w = let e = only u u w in d (sym e.0 ∙ e.1)

    from-fourteen : So (intact C s) → Operations → (a : Act) → Only a → Still a → (n : ℕ) → Applies C (does s a) n → 14 ≤ n
    from-fourteen i o a only q n (twelve h) = absurd (h ((intact-iff C s).0 i))
    from-fourteen i o a only q n (thirteen w h) = absurd (not-thirteen o a only w h)
    from-fourteen i o a only q n (fourteen w) = omega arith
    from-fourteen i o a only q n (fifteen h) = omega arith
    from-fourteen i o a only q n (sixteen h) = omega arith
    from-fourteen i o a only q n (faulty f _ w) = absurd q

    from-fifteen : So (intact C s) → Operations → x ≢ y → (a : Act) → Only a → Still a → (n : ℕ) → Applies C (does s a) n → 15 ≤ n
    from-fifteen i o d a only q n (twelve h) = absurd (h ((intact-iff C s).0 i))
    from-fifteen i o d a only q n (thirteen w h) = absurd (not-thirteen o a only w h)
    from-fifteen i o d a only q n (fourteen w) = absurd (not-fourteen d a only w)
    from-fifteen i o d a only q n (fifteen h) = omega arith
    from-fifteen i o d a only q n (sixteen h) = omega arith
    from-fifteen i o d a only q n (faulty f _ w) = absurd q

    abbrev joined : Bool
    joined = (frame_of s.trace).operation x && (frame_of s.trace).operation y

    both : So joined → Operations
    both = (and-iff same-iff same-iff).0

    supposes-only : Only (supposes x y)
    supposes-only u v supposed = (refl, refl)

    asks-only : Only (asks x y)
    asks-only u v asked = (refl, refl)

    none-supposes : So (intact C s) → So joined → x ≢ y → s.stack.count < PAIRS → (n : ℕ) → Applies C (does s (supposes x y)) n → ⊥
    none-supposes i o d l n (twelve h) = h ((intact-iff C s).0 i)
    none-supposes i o d l n (thirteen w h) = not-thirteen (both o) (supposes x y) supposes-only w h
    none-supposes i o d l n (fourteen w) = not-fourteen d (supposes x y) supposes-only w
    none-supposes i o d l n (fifteen h) = omega arith

    none-asks : So (intact C s) → So joined → x ≢ y → (n : ℕ) → Applies C (does s (asks x y)) n → ⊥
    none-asks i o d n (twelve h) = h ((intact-iff C s).0 i)
    none-asks i o d n (thirteen w h) = not-thirteen (both o) (asks x y) asks-only w h
    none-asks i o d n (fourteen w) = not-fourteen d (asks x y) asks-only w

    suppose-right : Right C (does s (supposes x y)) (suppose_turn C s x y)
    suppose-right = elim (test (intact C s)) [
      | inr n ↦ refused (pair-unlike C s x y n) refl (unlike-right n (supposes x y))
      | inl i ↦ elim (test joined) [
        | inr n ↦
            refused (pair-fence C s x y i n) refl
            (thirteen supposed (λ o. false≢true (sym n ∙ (and-iff same-iff same-iff).1 o)), from-thirteen i (supposes x y) tt)
        | inl o ↦ elim (eq? x y) [
          | inl e ↦
              refused (pair_one C s x y i o e) refl
              (fourteen (subst (λ (z : ℕ). Names (supposes x z) x x) e supposed), from-fourteen i (both o) (supposes x y) supposes-only tt)
          | inr d ↦ elim (dec_lt s.stack.count PAIRS) [
            | yes l ↦ subst (Right C (does s (supposes x y))) (sym (suppose-done C s x y (ap is_done (pair-done C s x y i o d)) l)) (none-supposes i o d l)
            | no l ↦
                subst (Right C (does s (supposes x y))) (sym (suppose-full C s x y (ap is_done (pair-done C s x y i o d)) (omega arith)))
                (fifteen (omega arith), from-fifteen i (both o) d (supposes x y) supposes-only tt)
          ]
        ]
      ]
    ]
      where
        refused : {a : Answer} → pair_turn C s x y ≡ a → is_done a ≡ false → Right C (does s (supposes x y)) a → Right C (does s (supposes x y)) (suppose_turn C s x y)
        refused {a} e n r = subst (Right C (does s (supposes x y))) (sym (suppose-pair C s x y (ap is_done e ∙ n) ∙ e)) r

    -- what the table says is no refusal
    told_none : (b c : Bool) → refusal_number (cond b Contradicted (cond c Held NotHeld)) ≡ none
    told_none true c = refl
    told_none false true = refl
    told_none false false = refl

    ask-right : Right C (does s (asks x y)) (ask_of C s x y).answer
    unfolding ask_of told_of
    ask-right = elim (test (intact C s)) [
      | inr n ↦ refused (pair-unlike C s x y n) refl (unlike-right n (asks x y))
      | inl i ↦ elim (test joined) [
        | inr n ↦
            refused (pair-fence C s x y i n) refl
            (thirteen asked (λ o. false≢true (sym n ∙ (and-iff same-iff same-iff).1 o)), from-thirteen i (asks x y) tt)
        | inl o ↦ elim (eq? x y) [
          | inl e ↦
              refused (pair_one C s x y i o e) refl
              (fourteen (subst (λ (z : ℕ). Names (asks x z) x x) e asked), from-fourteen i (both o) (asks x y) asks-only tt)
          | inr d ↦
              subst (Lowest (Applies C (does s (asks x y))))
              (sym (ap (λ a. refusal_number (cond (is_done a) (told_of s x y) a)) (pair-done C s x y i o d) ∙ told_none s.contradicted (bit s.held x y)))
              (none-asks i o d)
        ]
      ]
    ]
      where
        refused : {a : Answer} → pair_turn C s x y ≡ a → is_done a ≡ false → Right C (does s (asks x y)) a → Right C (does s (asks x y)) (ask_of C s x y).answer
        refused {a} e n r =
            subst (Right C (does s (asks x y))) (sym (ap (λ a. cond (is_done a) (told_of s x y) a) e ∙ ap (λ b. cond b (told_of s x y) a) n)) r

  from-sixteen : So (intact C s) → (n : ℕ) → Applies C (does s takes_back) n → 16 ≤ n
  from-sixteen i n (twelve h) = absurd (h ((intact-iff C s).0 i))
  from-sixteen i n (sixteen h) = omega arith
  from-sixteen i n (thirteen h _) = elim h [ ]
  from-sixteen i n (fourteen h) = elim h [ ]

  none-back : So (intact C s) → s.stack.count ≢ 0 → (n : ℕ) → Applies C (does s takes_back) n → ⊥
  none-back i d n (twelve h) = h ((intact-iff C s).0 i)
  none-back i d n (sixteen h) = d h
  none-back i d n (thirteen h _) = elim h [ ]
  none-back i d n (fourteen h) = elim h [ ]

  back-right : Right C (does s takes_back) (take_back_turn C s)
  back-right = elim (test (intact C s)) [
    | inr n ↦ subst (Right C (does s takes_back)) (sym (back-unlike C s n)) (unlike-right n takes_back)
    | inl i ↦ elim (eq? s.stack.count 0) [
      | inl e ↦ subst (Right C (does s takes_back)) (sym (back_none C s i e)) (sixteen e, from-sixteen i)
      | inr d ↦ subst (Right C (does s takes_back)) (sym (back_done C s i d)) (none-back i d)
    ]
  ]

  module _ (o : Op) (i : So (intact C s)) where
    -- no number below that of a fault, where no lower one's case holds
    from-fault : (f : Option Fault) → Lower f s.trace o → (n : ℕ) → Applies C (does s (adds o)) n → fault_number f ≤ n
    from-fault f l n (twelve h) = absurd (h ((intact-iff C s).0 i))
    from-fault f l n (faulty g _ w) = elim (dec_lt (fault_number g) (fault_number f)) [ yes h ↦ absurd (l g h w) | no h ↦ omega arith ]
    from-fault f l n (thirteen h _) = elim h [ ]
    from-fault f l n (fourteen h) = elim h [ ]

    none-adds : ((f : Option Fault) → Wrong f s.trace o → ⊥) → (n : ℕ) → Applies C (does s (adds o)) n → ⊥
    none-adds e n (twelve h) = h ((intact-iff C s).0 i)
    none-adds e n (faulty g _ w) = e g w
    none-adds e n (thirteen h _) = elim h [ ]
    none-adds e n (fourteen h) = elim h [ ]

    -- what a record earns is what it gets
    fault-right : (f : Option Fault) → Earns f s.trace o → Right C (does s (adds o)) (fault_answer f)
    fault-right None e = none-adds e
    fault-right (Some fault.PastBound) e = (faulty (Some fault.PastBound) ((intact-iff C s).0 i) e.0, from-fault (Some fault.PastBound) e.1)
    fault-right (Some fault.FirstValue) e = (faulty (Some fault.FirstValue) ((intact-iff C s).0 i) e.0, from-fault (Some fault.FirstValue) e.1)
    fault-right (Some fault.TooMany) e = (faulty (Some fault.TooMany) ((intact-iff C s).0 i) e.0, from-fault (Some fault.TooMany) e.1)
    fault-right (Some fault.Twice) e = (faulty (Some fault.Twice) ((intact-iff C s).0 i) e.0, from-fault (Some fault.Twice) e.1)

  add_right : (o : Op) → Right C (does s (adds o)) (add_turn C s o)
  add_right o = elim (test (intact C s)) [
    | inr n ↦ subst (Right C (does s (adds o))) (sym (add-unlike C s o n)) (unlike-right n (adds o))
    | inl i ↦ subst (Right C (does s (adds o))) (sym (add-fault C s o i)) (fault-right o i (fault_of s.trace o) ((fault-exactly s.trace o (fault_of s.trace o)).0 refl))
  ]

  -- that a record waits is no refusal
  none-awaits : So (intact C s) → (n : ℕ) → Applies C (does s awaits) n → ⊥
  none-awaits i n (twelve h) = h ((intact-iff C s).0 i)
  none-awaits i n (thirteen h _) = elim h [ ]
  none-awaits i n (fourteen h) = elim h [ ]

  awaits-right : Right C (does s awaits) (waiting_of C s).answer
  awaits-right = elim (test (intact C s)) [
    | inr n ↦ subst (λ (r : Reply). Right C (does s awaits) r.answer) (waiting-unlike C s n) (unlike-right n awaits)
    | inl i ↦ subst (λ (r : Reply). Right C (does s awaits) r.answer) (waiting-told C s i (waits_of (missing_of s.trace)) refl) (waited (missing_of s.trace) i)
  ]
    where
      waited : (found : Found) → So (intact C s) → Right C (does s awaits) (waits_of found)
      waited (Some x) i = none-awaits i
      waited None i = none-awaits i

pub number-lowest : (C : Closings) (c : Call) → Lowest (Applies C c) (refusal_number (answer_of C c))
unfolding open_of suppose_of take_back_of add_of
number-lowest C (opens t m) = opening-right C t m
number-lowest C (makes t m k) = made-right C t m k
number-lowest C (does s (supposes x y)) = suppose-right C s x y
number-lowest C (does s takes_back) = back-right C s
number-lowest C (does s (asks x y)) = ask-right C s x y
number-lowest C (does s (adds o)) = add_right C s o
number-lowest C (does s awaits) = awaits-right C s
