-- What is wrong with one record more: each number exactly in its case.
--
--   fault_past, fault-first, fault-many, fault-twice, fault-clear, fault-new, fault-plain == each answer, with the tests that lead to it
--   number-one    == two faults of one number are one
--   fault-exactly == a record gets a fault exactly where it earns it
--   fault-none    == nothing is wrong exactly where there is room and the record may follow
use Rattle.std.specs.Prelude.{Option, Some, None}
use mathlib.Core.Path.{◌≡◌, refl, sym, ap, subst, ◌∙◌}
use mathlib.Core.Logic.{◌↔◌, ◌⊎◌, inl, inr}
use mathlib.Core.Bool.{true, false, ◌&&◌, and-false, So, false≢true}
use mathlib.Core.List.{[], ◌∷◌}
use Prim.Native.Nat.{ℕ, ◌<◌, ◌≤◌}
use native.Mathlib.Decide.{dec_lt}
use native.Mathlib.Omega.{arith}
use lib.Dec.{eqb}
use lib.ListN.{get_or}
use borrow.Author.Tests.{le-leb, lt-leb}
use Rattle.laws.proofs.Tests.{test, and-iff, same-iff, so-eq, three as which}
use Rattle.trace.specs.Bounds.{RECORDS}
use Rattle.trace.specs.Op.{address, written, writes}
use Rattle.trace.specs.Trace.{first}
use Rattle.trace.specs.WellFormed.{bounded, written_before, follows}
use Rattle.trace.specs.FormFacts.{Follows}
use Rattle.trace.specs.Fault.{fault_number, WritesFirst, WritesAgain, Wrong, Lower, Earns, fault_of}
use Rattle.trace.specs.declared.Op.{Op}
use Rattle.trace.specs.declared.Trace.{Trace}
use Rattle.trace.specs.declared.Fault.{Fault}
use Rattle.trace.specs.declared.Fault.TheVariants.{PastBound, FirstValue, TooMany, Twice}
use Rattle.trace.proofs.WellFormed.{bounded-iff, written-before-iff, follows-iff}

-- ---- the tests in the order of their numbers
module _ (t : Trace) (o : Op) where
  pub fault_past : bounded o ≡ false → (Some PastBound) ≡ fault_of t o
  unfolding fault_of
  fault_past e = rw e

  module _ (keeps : bounded o ≡ true) where
    pub fault-first : (writes o && eqb (written o) (first t (address o))) ≡ true → (Some FirstValue) ≡ fault_of t o
    unfolding fault_of
    fault-first e = rw (keeps, e)

    module _ (other : (writes o && eqb (written o) (first t (address o))) ≡ false) where
      pub fault-many : RECORDS ≤ t.len → (Some TooMany) ≡ fault_of t o
      unfolding fault_of
      fault-many h = rw (keeps, other, le-leb RECORDS t.len h)

      module _ (room : t.len < RECORDS) where
        pub fault-twice : writes o ≡ true → written_before t t.len (address o) (written o) ≡ true → (Some Twice) ≡ fault_of t o
        unfolding fault_of
        fault-twice w b = rw (keeps, other, lt-leb RECORDS t.len room, w, b)

        pub fault-clear : (writes o && written_before t t.len (address o) (written o)) ≡ false → None ≡ fault_of t o
        unfolding fault_of
        fault-clear e = rw (keeps, other, lt-leb RECORDS t.len room, e)

        pub fault-new : written_before t t.len (address o) (written o) ≡ false → None ≡ fault_of t o
        fault-new b = fault-clear (rw b (and-false (writes o)))

        pub fault-plain : writes o ≡ false → None ≡ fault_of t o
        fault-plain w = fault-clear (rw w refl)

-- ---- what they say

-- the fault of a number
abbrev fault_at : ℕ → Option Fault
fault_at k = get_or (None ∷ None ∷ None ∷ None ∷ (Some PastBound) ∷ None ∷ (Some FirstValue) ∷ (Some TooMany) ∷ (Some Twice) ∷ []) k None

number-back : (f : Option Fault) → fault_at (fault_number f) ≡ f
number-back None = refl
number-back (Some PastBound) = refl
number-back (Some FirstValue) = refl
number-back (Some TooMany) = refl
number-back (Some Twice) = refl

pub number-one : (f g : Option Fault) → fault_number f ≡ fault_number g → f ≡ g
number-one f g e = sym (number-back f) ∙ ap fault_at e ∙ number-back g

module _ (t : Trace) (o : Op) where
  first-iff : So (writes o && eqb (written o) (first t (address o))) ↔ WritesFirst t o
  first-iff = and-iff same-iff so-eq

  again-iff : So (writes o && written_before t t.len (address o) (written o)) ↔ WritesAgain t o
  again-iff = and-iff same-iff (written-before-iff t t.len (address o) (written o))

  -- a fault that is no higher than any that applies
  lower : (fault : Option Fault) → (fault_number (Some PastBound) < fault_number fault → So (bounded o)) → (fault_number (Some FirstValue) < fault_number fault → WritesFirst t o → ⊥) → (fault_number (Some TooMany) < fault_number fault → t.len < RECORDS)
      → (fault_number (Some Twice) < fault_number fault → ⊥) → Lower fault t o
  lower fault keeps other room last None h c = c
  lower fault keeps other room last (Some PastBound) h c = c ((bounded-iff o).0 (keeps h))
  lower fault keeps other room last (Some FirstValue) h c = other h c
  lower fault keeps other room last (Some TooMany) h c = let r = room h in omega arith
  lower fault keeps other room last (Some Twice) h c = last h

  -- what is told is earned
  told : Earns (fault_of t o) t o
  told = elim (test (bounded o)) [
    | inr p ↦ subst (λ f. Earns f t o) (fault_past t o p) (λ b. false≢true (sym p ∙ (bounded-iff o).1 b), lower (Some PastBound) (λ h. absurd (omega arith)) (λ h. absurd (omega arith)) (λ h. absurd (omega arith)) (λ h. omega arith))
    | inl p ↦ elim (test (writes o && eqb (written o) (first t (address o)))) [
      | inl q ↦ subst (λ f. Earns f t o) (fault-first t o p q) (first-iff.0 q, lower (Some FirstValue) (λ h. p) (λ h. absurd (omega arith)) (λ h. absurd (omega arith)) (λ h. omega arith))
      | inr q ↦ elim (dec_lt t.len RECORDS) [
        | no r ↦ subst (λ f. Earns f t o) (fault-many t o p q (omega arith)) (omega arith, lower (Some TooMany) (λ h. p) (λ h c. others q c) (λ h. absurd (omega arith)) (λ h. omega arith))
        | yes r ↦ elim (test (writes o && written_before t t.len (address o) (written o))) [
          | inl w ↦
              let b = (and-iff same-iff same-iff).0 w in
              subst (λ f. Earns f t o) (fault-twice t o p q r b.0 b.1) (again-iff.0 w, lower (Some Twice) (λ h. p) (λ h c. others q c) (λ h. r) (λ h. omega arith))
          | inr w ↦ subst (λ f. Earns f t o) (fault-clear t o p q r w) (λ f c. none p q r w f c)
        ]
      ]
    ]
  ]
    where
      others : (writes o && eqb (written o) (first t (address o))) ≡ false → WritesFirst t o → ⊥
      others q c = false≢true (sym q ∙ first-iff.1 c)

      none : So (bounded o) → (writes o && eqb (written o) (first t (address o))) ≡ false → t.len < RECORDS → (writes o && written_before t t.len (address o) (written o)) ≡ false → (f : Option Fault) → Wrong f t o → ⊥
      none p q r w None c = c
      none p q r w (Some PastBound) c = c ((bounded-iff o).0 p)
      none p q r w (Some FirstValue) c = others q c
      none p q r w (Some TooMany) c = omega arith
      none p q r w (Some Twice) c = false≢true (sym w ∙ again-iff.1 c)

  -- a case holds, or none does
  holds : (f : Option Fault) → Earns f t o → (Wrong f t o × Lower f t o) ⊎ ((f ≡ None) × ((g : Option Fault) → Wrong g t o → ⊥))
  holds None e = inr (refl, e)
  holds (Some PastBound) e = inl e
  holds (Some FirstValue) e = inl e
  holds (Some TooMany) e = inl e
  holds (Some Twice) e = inl e

  one : (f g : Option Fault) → Earns f t o → Earns g t o → f ≡ g
  one f g d e = elim (holds f d) [
    | inr n ↦ elim (holds g e) [ inr m ↦ n.0 ∙ sym m.0 | inl w ↦ absurd (n.1 g w.0) ]
    | inl v ↦ elim (holds g e) [
      | inr m ↦ absurd (m.1 f v.0)
      | inl w ↦ elim (which (fault_number f) (fault_number g)) [ inl h ↦ absurd (w.1 f h v.0) | inr h ↦ elim h [ inl q ↦ number-one f g q | inr l ↦ absurd (v.1 g l w.0) ] ]
    ]
  ]

  pub fault-exactly : (f : Option Fault) → (fault_of t o ≡ f) ↔ Earns f t o
  fault-exactly f = (λ e. subst (λ g. Earns g t o) e told, λ e. one (fault_of t o) f told e)

  pub fault-none : (fault_of t o ≡ None) ↔ ((t.len < RECORDS) × So (follows t t.len o))
  fault-none = (λ e. from ((fault-exactly None).0 e), λ p. (fault-exactly None).1 (to p.0 ((follows-iff t t.len o).0 p.1)))
    where
      from : Earns None t o → (t.len < RECORDS) × So (follows t t.len o)
      from n = (
        elim (dec_lt t.len RECORDS) [ yes h ↦ h | no h ↦ absurd (n (Some TooMany) (omega arith)) ],
        (follows-iff t t.len o).1 (record {
          keeps = elim (test (bounded o)) [ inl b ↦ (bounded-iff o).0 b | inr b ↦ absurd (n (Some PastBound) (λ k. false≢true (sym b ∙ (bounded-iff o).1 k))) ];
          fresh = λ w. record { later = λ q. n (Some FirstValue) (w, q); once = λ j h x. n (Some Twice) (w, (j, h, x)) };
        }),
      )

      to : t.len < RECORDS → Follows t t.len o → Earns None t o
      to r f None c = c
      to r f (Some PastBound) c = c f.keeps
      to r f (Some FirstValue) c = (f.fresh c.0).later c.1
      to r f (Some TooMany) c = omega arith
      to r f (Some Twice) c = (f.fresh c.0).once c.1.0 c.1.1 c.1.2
