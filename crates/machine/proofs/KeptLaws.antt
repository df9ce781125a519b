-- SC and TSO keep what the machine's proofs ask for.
--
--   machined-iff == a model has a machine
--   lands-iff    == an operation reaches memory as it runs
--   let-off-why  == what a model with a machine lets off: a store and a load, under TSO
--   model-laws   == so both models keep what is asked for
use mathlib.Core.Path.{◌≡◌, refl, sym, ◌∙◌}
use mathlib.Core.Logic.{◌↔◌, ◌⊎◌, inl, inr}
use mathlib.Core.Bool.{Bool, false, So, not, false≢true}
use Prim.Native.Nat.{ℕ, ◌<◌, ◌≤◌}
use native.Mathlib.Omega.{arith}
use lib.Dec.{eqb}
use Rattle.laws.proofs.Tests.{and-iff, or-iff, same-iff, so-eq, so-lt, so-le, so-not, test, off, eq?}
use Rattle.trace.specs.Op.{address, reads, writes, fence}
use Rattle.trace.specs.Trace.{at}
use Rattle.trace.specs.Meaning.{frame_of}
use Rattle.trace.specs.declared.Op.{Op}
use Rattle.trace.specs.declared.Op.TheVariants.{Load, Store, Swap, Fence}
use Rattle.trace.specs.declared.Trace.{Trace}
use Rattle.trace.proofs.Meaning.{operation-iff, reads-iff, writes-iff, reads-operation}
use Rattle.pairs.specs.Kept.{SC, TSO, LOAD, STORE, kind_of, fenced, kept_of}
use Rattle.pairs.proofs.KeptPairs.{earlier-iff, fenced-iff, Off, LetOff, model-keeps}
use Rattle.machine.specs.Machine.{machined}
use Rattle.machine.proofs.CoresOf.{cores_of}
use Rattle.machine.proofs.History.{Laws}

-- kinds of operations
store-kind : (o : Op) → So (not (fence o)) → reads o ≡ false → kind_of o ≡ STORE
store-kind (Load t a r) s e = absurd (false≢true (sym e))
store-kind (Store t a w) s e = refl
store-kind (Swap t a r w) s e = absurd (false≢true (sym e))
store-kind (Fence t) s e = absurd (false≢true s)

store_writes : (o : Op) → So (not (fence o)) → reads o ≡ false → So (writes o)
store_writes (Load t a r) s e = absurd (false≢true (sym e))
store_writes (Store t a w) s e = refl
store_writes (Swap t a r w) s e = refl
store_writes (Fence t) s e = absurd (false≢true s)

load-kind : (o : Op) → So (not (fence o)) → writes o ≡ false → kind_of o ≡ LOAD
load-kind (Load t a r) s e = refl
load-kind (Store t a w) s e = absurd (false≢true (sym e))
load-kind (Swap t a r w) s e = absurd (false≢true (sym e))
load-kind (Fence t) s e = absurd (false≢true s)

kind-load : (o : Op) → kind_of o ≡ LOAD → writes o ≡ false
kind-load (Load t a r) e = refl
kind-load (Store t a w) e = absurd (omega (arith, e))
kind-load (Swap t a r w) e = absurd (omega (arith, e))
kind-load (Fence t) e = absurd (omega (arith, e))

kind-store : (o : Op) → kind_of o ≡ STORE → reads o ≡ false
kind-store (Load t a r) e = absurd (omega (arith, e))
kind-store (Store t a w) e = refl
kind-store (Swap t a r w) e = absurd (omega (arith, e))
kind-store (Fence t) e = absurd (omega (arith, e))

pub lands-iff : (m : ℕ) (t : Trace) (x : ℕ) → So ((cores_of m t).lands x) ↔ ((x < t.len) × (So (not (fence (at t x))) × (So (reads (at t x)) ⊎ (m ≡ SC))))
lands-iff m t x = and-iff so-lt (and-iff same-iff (or-iff same-iff so-eq))

-- what does not hang on the pairs
module _ (m : ℕ) (t : Trace) where
  lands-operation : (x : ℕ) → So ((cores_of m t).lands x) → So ((frame_of t).operation x)
  lands-operation x h = let p = (lands-iff m t x).0 h in (operation-iff t x).1 (p.0, p.1.0)

  off-reads : (x : ℕ) → So ((frame_of t).operation x) → (cores_of m t).lands x ≡ false → reads (at t x) ≡ false
  off-reads x o e = let p = (operation-iff t x).0 o in off (λ r. false≢true (sym e ∙ (lands-iff m t x).1 (p.0, (p.1, inl r))))

  waits-writes : (x : ℕ) → So ((frame_of t).operation x) → (cores_of m t).lands x ≡ false → So ((frame_of t).writes x)
  waits-writes x o e = let p = (operation-iff t x).0 o in (writes-iff t x).1 (p.0, store_writes (at t x) p.1 (off-reads x o e))

  reads-lands : (x : ℕ) → So ((frame_of t).reads x) → So ((cores_of m t).lands x)
  reads-lands x r = let p = (reads-iff t x).0 r in (lands-iff m t x).1 (p.0, (reads-operation (at t x) p.1, inl p.1))

  -- a record between two operations that is none is a fence
  is-fence : (z y : ℕ) → So ((frame_of t).earlier z y) → So ((frame_of t).operation y) → (frame_of t).operation z ≡ false → So (fence (at t z))
  is-fence z y h o e = elim (test (fence (at t z))) [
    | inl f ↦ f
    | inr f ↦ absurd (false≢true (sym e ∙ (operation-iff t z).1 (omega (arith, ((earlier-iff t z y).0 h).0, ((operation-iff t y).0 o).0), so-not.1 (λ s. false≢true (sym f ∙ s)))))
  ]

pub machined-iff : (m : ℕ) → So (machined m) ↔ ((0 < m) × (m ≤ TSO))
machined-iff m = and-iff so-lt so-le

let-off-why : (m a b : ℕ) (one : Bool) → m ≤ TSO → Off m a b one → ((TSO ≤ m) × (a ≡ STORE)) × (b ≡ LOAD)
let-off-why m a b one h (inl (inl p)) = p
let-off-why m a b one h (inl (inr p)) = absurd (omega (arith, p.0.0.0))
let-off-why m a b one h (inr p) = absurd (omega (arith, p.0))

module _ (m : ℕ) (t : Trace) (k : (0 < m) × (m ≤ TSO)) where
  -- the pairs that the model keeps, as facts
  keeps : (x y : ℕ) → So (kept_of m t x y) ↔ (((So ((frame_of t).earlier x y) × So ((frame_of t).operation x)) × So ((frame_of t).operation y)) × (LetOff t x y m → ⊥))
  keeps x y = model-keeps t x y m (k.0, omega (arith, k.1))

  let-off : {x y : ℕ} → LetOff t x y m → ((TSO ≤ m) × (kind_of (at t x) ≡ STORE)) × (kind_of (at t y) ≡ LOAD)
  let-off {x} {y} l = let-off-why m (kind_of (at t x)) (kind_of (at t y)) (eqb (address (at t x)) (address (at t y))) k.1 l.kinds

  -- what lands is not let off
  from : {o : Bool} → So o ⊎ (m ≡ SC) → TSO ≤ m → o ≡ false → ⊥
  from (inl s) h e = false≢true (sym e ∙ s)
  from (inr s) h e = omega (arith, s)

  why : (x y : ℕ) → So (kept_of m t x y)
      → So ((frame_of t).writes y) ⊎ (So ((cores_of m t).lands x) ⊎ ((z : ℕ) × So ((frame_of t).earlier x z) × So ((frame_of t).earlier z y) × ((frame_of t).operation z ≡ false)))
  why x y s =
      let p = (keeps x y).0 s in
      let e = (earlier-iff t x y).0 p.0.0.0 in
      let ox = (operation-iff t x).0 p.0.0.1 in
      let oy = (operation-iff t y).0 p.0.1 in
      elim (test (writes (at t y))) [
        | inl w ↦ inl ((writes-iff t y).1 (oy.0, w))
        | inr w ↦ elim (test ((cores_of m t).lands x)) [
          | inl l ↦ inr (inl l)
          | inr l ↦ elim (test (fenced t x y)) [
            | inl b ↦
                let (z, zy, ((f, xz), q)) = (fenced-iff t x y).0 b in
                inr (inr (z, (earlier-iff t x z).1 (xz, sym q), (earlier-iff t z y).1 (zy, q ∙ e.1), off (λ s. so-not.0 ((operation-iff t z).0 s).1 f)))
            | inr b ↦
                let n : (m ≡ SC) → ⊥ = λ q. false≢true (sym l ∙ (lands-iff m t x).1 (ox.0, (ox.1, inr q))) in
                let tso : TSO ≤ m = elim (eq? m SC) [ inl q ↦ absurd (n q) | inr q ↦ omega (arith, k.0) ] in
                absurd (p.1 (record {
                  kinds = inl (inl ((tso, store-kind (at t x) ox.1 (off-reads m t x p.0.0.1 l)), load-kind (at t y) oy.1 w));
                  near = λ j h u s v. false≢true (sym b ∙ (fenced-iff t x y).1 (j, u, ((s, h), v)));
                }))
          ]
        ]
      ]

pub model-laws : (m : ℕ) (t : Trace) → So (machined m) → Laws (cores_of m t) (kept_of m t)
model-laws m t h =
    let k = (machined-iff m).0 h in
    record {
      order = λ x y h. (earlier-iff t x y).0 h;
      ordered = λ x y h e. (earlier-iff t x y).1 (h, e);
      lands-operation = lands-operation m t;
      waits-writes = waits-writes m t;
      reads-lands = reads-lands m t;
      to-writer = λ x y h o p w. (keeps m t k x y).1 (((h, o), p), λ l. false≢true (sym (kind-load (at t y) (let-off m t k l).1) ∙ ((writes-iff t y).0 w).1));
      from-landed = λ x y h o p w. (keeps m t k x y).1 (((h, o), p), λ l. let q = (let-off m t k l).0 in from m t k ((lands-iff m t x).0 w).1.1 q.0 (kind-store (at t x) q.1));
      over-fence = λ x z y a b f o p.
          let h = (earlier-iff t x z).0 a in let j = (earlier-iff t z y).0 b in
          (keeps m t k x y).1 ((((earlier-iff t x y).1 (omega (arith, h.0, j.0), h.1 ∙ j.1), o), p), λ l. l.near z h.0 j.0 (is-fence m t z y b p f) (sym h.1));
      kept-early = λ x y s. ((keeps m t k x y).0 s).0.0.0;
      kept-first = λ x y s. ((keeps m t k x y).0 s).0.0.1;
      kept_second = λ x y s. ((keeps m t k x y).0 s).0.1;
      kept-why = why m t k;
    }
