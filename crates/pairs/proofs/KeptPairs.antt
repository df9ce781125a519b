-- What the models keep.
--
--   Kept t x y m                         == model m keeps the pair x, y, as facts
--   let-off-iff, kept-by-iff, fenced-iff, kept-of-iff == the tests say what they are to say
--   right, entry-right                   == a table of entries is that of kept pairs: one test over all of them, and what it says of each
--   fence-kind                           == a record is a fence, or of a lower kind
--   modelled-iff, earlier-iff            == a model exists; one record is before another in program order
--   kept-parts                           == the same table, as a function reads it off two records
--   kept-joins                           == kept pairs join operations
--   LetOff t x y m                       == the pairs that model m lets off, with no fence of that thread between them
--   model-keeps                          == a model keeps program order, but for what it lets off
--   kept_less                            == each model keeps what the later ones keep
use mathlib.Core.Path.{◌≡◌, refl}
use mathlib.Core.Logic.{◌↔◌, ◌⊎◌, inl, inr}
use mathlib.Core.Bool.{Bool, true, false, So, not, ◌&&◌, false≢true, beq}
use mathlib.Core.List.{List, []}
use Prim.Native.Nat.{ℕ, suc, ◌<◌, ◌≤◌}
use native.Mathlib.Omega.{arith}
use lib.Dec.{eqb, ltb}
use lib.ListN.{get_or}
use Rattle.laws.specs.Tests.{all}
use Rattle.laws.proofs.Tests.{and-iff, or-iff, not_iff, same-iff, so-all, any-iff, so-eq, so-lt, so-le, so-not, test, test-one}
use Rattle.trace.specs.Op.{thread, address, fence}
use Rattle.trace.specs.Trace.{at}
use Rattle.trace.specs.Meaning.{frame_of}
use Rattle.trace.specs.declared.Op.{Op}
use Rattle.trace.specs.declared.Op.TheVariants.{Load, Store, Swap, Fence}
use Rattle.trace.specs.declared.Trace.{Trace}
use Rattle.trace.proofs.Meaning.{operation-iff}
use Rattle.rules.specs.Rules.{Joins}
use Rattle.pairs.specs.Kept.{TSO, PSO, WMO, MODELS, LOAD, STORE, FENCE, modelled, kind_of, let_off, side_of, kept_by, kept_pair, fenced, kept_of}

pub modelled-iff : (m : ℕ) → So (modelled m) ↔ ((0 < m) × (m ≤ MODELS))
modelled-iff m = and-iff so-lt so-le

-- what a model lets off without a fence between
abbrev pub Off : ℕ → ℕ → ℕ → Bool → Type 0
Off m a b one =
    ((((TSO ≤ m) × (a ≡ STORE)) × (b ≡ LOAD)) ⊎ ((((PSO ≤ m) × (a ≡ STORE)) × (b ≡ LOAD → ⊥)) × So (not one))) ⊎ ((WMO ≤ m) × So (not one))

pub let-off-iff : (m a b : ℕ) (one : Bool) → So (let_off m a b one) ↔ Off m a b one
unfolding let_off
let-off-iff m a b one =
    or-iff (or-iff (and-iff (and-iff so-le so-eq) so-eq) (and-iff (and-iff (and-iff so-le so-eq) (not_iff so-eq)) same-iff)) (and-iff so-le same-iff)

pub kept-by-iff : (m a b : ℕ) (one : Bool) → So (kept_by m a b one) ↔ (((((0 < m) × (m ≤ MODELS)) × (a < FENCE)) × (b < FENCE)) × (Off m a b one → ⊥))
unfolding kept_by
kept-by-iff m a b one = and-iff (and-iff (and-iff (modelled-iff m) so-lt) so-lt) (not_iff (let-off-iff m a b one))

pub side-two : (one : Bool) → side_of one < 2
side-two false = omega arith
side-two true = omega arith

abbrev pub entry : List (List (List (List Bool))) → ℕ → ℕ → ℕ → Bool → Bool
entry table m a b one = get_or (get_or (get_or (get_or table m []) a []) b []) (side_of one) false

abbrev pub right : List (List (List (List Bool))) → Bool
right table = all (suc MODELS) (λ m. all (suc FENCE) (λ a. all (suc FENCE) (λ b.
    beq (entry table m a b false) (kept_by m a b false) && beq (entry table m a b true) (kept_by m a b true))))

pub entry-right : (table : List (List (List (List Bool)))) → So (right table) → (m a b : ℕ) (one : Bool) → m < suc MODELS → a < suc FENCE → b < suc FENCE → entry table m a b one ≡ kept_by m a b one
entry-right table s m a b one hm ha hb = at one
  where
    same : (p q : Bool) → So (beq p q) → p ≡ q
    same true true e = refl
    same true false e = absurd (false≢true e)
    same false true e = absurd (false≢true e)
    same false false e = refl

    both : So (beq (entry table m a b false) (kept_by m a b false)) × So (beq (entry table m a b true) (kept_by m a b true))
    both = (and-iff same-iff same-iff).0 ((so-all _ _).0 ((so-all _ _).0 ((so-all _ _).0 s m hm) a ha) b hb)

    at : (o : Bool) → entry table m a b o ≡ kept_by m a b o
    at false = same _ _ both.0
    at true = same _ _ both.1

pub earlier-iff : (t : Trace) (x y : ℕ) → So ((frame_of t).earlier x y) ↔ ((x < y) × (thread (at t x) ≡ thread (at t y)))
unfolding frame_of
earlier-iff t x y = and-iff so-lt so-eq

pub fence-kind : (o : Op) → So (not (fence o)) ↔ (kind_of o < FENCE)
fence-kind (Load t a r) = (λ _. omega arith, λ _. refl)
fence-kind (Store t a w) = (λ _. omega arith, λ _. refl)
fence-kind (Swap t a r w) = (λ _. omega arith, λ _. refl)
fence-kind (Fence t) = (λ s. absurd (false≢true s), λ h. absurd (omega arith))

module _ (t : Trace) (x y : ℕ) where
  pub fenced-iff : So (fenced t x y) ↔ ((i : ℕ) × (i < y) × ((So (fence (at t i)) × (x < i)) × (thread (at t i) ≡ thread (at t x))))
  unfolding fenced
  fenced-iff = any-iff (λ i. and-iff (and-iff same-iff so-lt) so-eq)

  abbrev one : Bool
  one = eqb (address (at t x)) (address (at t y))

  -- the table's two readings: off two records, and off the frame
  abbrev Parts : ℕ → Type 0
  Parts m =
      (((x < y) × (y < t.len)) × (thread (at t x) ≡ thread (at t y)))
      × (So (kept_by m (kind_of (at t x)) (kind_of (at t y)) one)
      ⊎ (((((0 < m) × (m ≤ MODELS)) × So (not (fence (at t x)))) × So (not (fence (at t y)))) × So (fenced t x y)))

  abbrev pub Kept : ℕ → Type 0
  Kept m =
      (((So ((frame_of t).earlier x y) × So ((frame_of t).operation x)) × So ((frame_of t).operation y)) × ((0 < m) × (m ≤ MODELS)))
      × (So (kept_by m (kind_of (at t x)) (kind_of (at t y)) one) ⊎ So (fenced t x y))

  pub kept-of-iff : (m : ℕ) → So (kept_of m t x y) ↔ Kept m
  unfolding kept_of
  kept-of-iff m = and-iff (and-iff (and-iff (and-iff same-iff same-iff) same-iff) (modelled-iff m)) (or-iff same-iff same-iff)

  -- the kinds of two operations
  kinds : So ((frame_of t).operation x) → So ((frame_of t).operation y) → (kind_of (at t x) < FENCE) × (kind_of (at t y) < FENCE)
  kinds p q = ((fence-kind (at t x)).0 ((operation-iff t x).0 p).1, (fence-kind (at t y)).0 ((operation-iff t y).0 q).1)

  pub kept-parts : (m : ℕ) → kept_of m t x y ≡ kept_pair m (at t x) (at t y) (ltb x y && ltb y t.len) (fenced t x y)
  unfolding kept_pair
  kept-parts m =
      let near = and-iff (and-iff (so-lt {m = x} {n = y}) (so-lt {m = y} {n = t.len})) (so-eq {m = thread (at t x)} {n = thread (at t y)}) in
      let across = and-iff (and-iff (and-iff (modelled-iff m) (same-iff {a = not (fence (at t x))})) (same-iff {a = not (fence (at t y))})) (same-iff {a = fenced t x y}) in
      let parts = and-iff near (or-iff (same-iff {a = kept_by m (kind_of (at t x)) (kind_of (at t y)) one}) across) in
      test-one (kept-of-iff m) (λ s. there (parts.0 s), λ s. parts.1 (back s))
    where
      there : Parts m → Kept m
      there (n, inl k) =
          let p = (kept-by-iff m _ _ _).0 k in (
            (
              (
                ((earlier-iff t x y).1 (n.0.0, n.1), (operation-iff t x).1 (omega arith, (fence-kind (at t x)).1 p.0.0.1)),
                (operation-iff t y).1 (n.0.1, (fence-kind (at t y)).1 p.0.1),
              ),
              p.0.0.0,
            ),
            inl k,
          )
      there (n, inr k) = (
        (
          (
            ((earlier-iff t x y).1 (n.0.0, n.1), (operation-iff t x).1 (omega arith, k.0.0.1)),
            (operation-iff t y).1 (n.0.1, k.0.1),
          ),
          k.0.0.0,
        ),
        inr k.1,
      )

      back : Kept m → Parts m
      back (p, k) =
          let e = (earlier-iff t x y).0 p.0.0.0 in
          let ox = (operation-iff t x).0 p.0.0.1 in
          let oy = (operation-iff t y).0 p.0.1 in (
            ((e.0, oy.0), e.1),
            elim k [ inl h ↦ inl h | inr h ↦ inr (((p.1, ox.1), oy.1), h) ],
          )

  pub record LetOff (m : ℕ) : Type 0 where
    pub kinds : Off m (kind_of (at t x)) (kind_of (at t y)) one
    pub near : (i : ℕ) → x < i → i < y → So (fence (at t i)) → thread (at t i) ≡ thread (at t x) → ⊥

  pub model-keeps : (m : ℕ) → (0 < m) × (m ≤ MODELS) → So (kept_of m t x y) ↔ (((So ((frame_of t).earlier x y) × So ((frame_of t).operation x)) × So ((frame_of t).operation y)) × (LetOff m → ⊥))
  model-keeps m model =
      let i = kept-of-iff m in
      (λ s. ((i.0 s).0.0, λ l. lets (i.0 s).1 l), λ p. i.1 ((p.0, model), keeps (kinds p.0.0.1 p.0.1) p.1))
    where
      lets : So (kept_by m (kind_of (at t x)) (kind_of (at t y)) one) ⊎ So (fenced t x y) → LetOff m → ⊥
      lets (inl k) l = ((kept-by-iff m _ _ _).0 k).1 l.kinds
      lets (inr k) l = let b = fenced-iff.0 k in l.near b.0 b.2.0.1 b.1 b.2.0.0 b.2.1

      keeps : (kind_of (at t x) < FENCE) × (kind_of (at t y) < FENCE) → (LetOff m → ⊥) → So (kept_by m (kind_of (at t x)) (kind_of (at t y)) one) ⊎ So (fenced t x y)
      keeps k n = elim (test (fenced t x y)) [
        | inl b ↦ inr b
        | inr b ↦ inl ((kept-by-iff m _ _ _).1 (
          ((model, k.0), k.1),
          λ o. n (record { kinds = o; near = λ j h l s u. so-not.0 (rw b refl) (fenced-iff.1 (j, l, ((s, h), u))) }),
        ))
      ]

  -- each model lets off what the ones before it do
  off-more : (m n a b : ℕ) (o : Bool) → m ≤ n → Off m a b o → Off n a b o
  off-more m n a b o h (inl (inl p)) = inl (inl ((omega (arith, p.0.0), p.0.1), p.1))
  off-more m n a b o h (inl (inr p)) = inl (inr (((omega (arith, p.0.0.0), p.0.0.1), p.0.1), p.1))
  off-more m n a b o h (inr p) = inr (omega (arith, p.0), p.1)

  pub kept_less : (m n : ℕ) → 0 < m → m ≤ n → So (kept_of n t x y) → So (kept_of m t x y)
  kept_less m n some h s =
      let k = (kept-of-iff n).0 s in
      (kept-of-iff m).1 (
        (k.0.0, (some, omega (arith, k.0.1))),
        elim k.1 [
          | inl b ↦
              let p = (kept-by-iff n _ _ _).0 b in
              inl ((kept-by-iff m _ _ _).1 ((((some, omega (arith, k.0.1)), p.0.0.1), p.0.1), λ o. p.1 (off-more m n _ _ one h o)))
          | inr b ↦ inr b
        ],
      )

pub kept-joins : (m : ℕ) (t : Trace) → Joins (frame_of t) (kept_of m t)
kept-joins m t x y s = let p = (kept-of-iff t x y m).0 s in (p.0.0.0.1, p.0.0.1)
