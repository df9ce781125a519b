-- A list that is accepted shows what it says, whoever wrote it.
--
--   Kept E xs                == xs keeps every edge of a branch
--   chained-sound            == then it keeps the chains of its entries
--   refutes-sound            == no valid order keeps a branch that is closed
--   accepted-sound           == an accepted list: there is no valid order
use mathlib.Core.Path.{◌≡◌, refl, ap}
use mathlib.Core.Logic.{◌≢◌, inl, inr}
use mathlib.Core.Bool.{Bool, true, false, So, ◌&&◌, false≢true}
use mathlib.Core.List.{List, [], ◌∷◌}
use mathlib.Core.Option.{Option, none, some}
use Prim.Native.Nat.{ℕ, zero, suc, ◌<◌, ◌≤◌}
use native.Mathlib.Nat.{not-suc-le-zero}
use native.Mathlib.Omega.{arith}
use lib.Dec.{eqb, ltb}
use lib.ListN.{length}
use Rattle.laws.specs.Places.{pos, Before}
use Rattle.laws.specs.Relation.{Table, ◌⊆◌}
use Rattle.laws.specs.inner.Sorted.{On}
use Rattle.laws.proofs.Tests.{and-iff, not_iff, same-iff, so-eq, so-lt}
use Rattle.rules.specs.Frame.{Frame, Good}
use Rattle.rules.specs.Order.{Valid}
use Rattle.rules.specs.Rules.{nothing}
use Rattle.rules.specs.RuleTests.{gives?}
use Rattle.rules.proofs.RuleTests.{gives-iff}
use Rattle.rules.proofs.Orders.{either}
use Rattle.rules.proofs.Sound.{gives-sound}
use Rattle.papers.specs.Paper.{CLOSE, SPLIT, Claim, Entry, edge_at, named, leads, arrives, chained, branch_room, may_rest, splits, fits, refutes, accepted}

abbrev pub Kept : List Claim → List ℕ → Type 0
Kept [] xs = Unit {0}
Kept (e ∷ E) xs = Before xs e.from e.to × Kept E xs

kept_at : (E : List Claim) (xs : List ℕ) → Kept E xs → (i : ℕ) → i < length E → Before xs (edge_at E i).from (edge_at E i).to
kept_at [] xs k i h = absurd (not-suc-le-zero h)
kept_at (e ∷ E) xs k zero h = k.0
kept_at (e ∷ E) xs k (suc i) h = kept_at E xs k.1 i (omega arith)

pub kept-named : (E : List Claim) (xs : List ℕ) (x y : ℕ) → Kept E xs → Before xs x y → Kept (named E x y) xs
kept-named [] xs x y k b = (b, tt)
kept-named (e ∷ E) xs x y k b = (k.0, kept-named E xs x y k.1 b)

module _ (E : List Claim) (xs : List ℕ) (k : Kept E xs) where
  -- where the entries lead is not before where they start
  leads-sound : (is : List ℕ) (x z : ℕ) → leads E is x ≡ some z → pos xs x ≤ pos xs z
  unfolding leads
  leads-sound [] x z e = let q : x ≡ z = cc in omega (arith, ap (pos xs) q)
  leads-sound (i ∷ is) x z e = go (ltb i (length E) && eqb (edge_at E i).from x) refl (leads-sound is (edge_at E i).to z) e
    where
      go : (b : Bool) → ltb i (length E) && eqb (edge_at E i).from x ≡ b → (leads E is (edge_at E i).to ≡ some z → pos xs (edge_at E i).to ≤ pos xs z)
          → elim b [ true ↦ leads E is (edge_at E i).to | false ↦ none ] ≡ some z → pos xs x ≤ pos xs z
      go true t r e =
          let p : (i < length E) × ((edge_at E i).from ≡ x) = (and-iff so-lt so-eq).0 t in
          omega (arith, kept_at E xs k i p.0, ap (pos xs) p.1, r e)
      go false t r e = absurd (let q : ◌≡◌ {A = ℕ} 0 1 = cc in omega arith)

  pub chained-sound : (is : List ℕ) → On (chained E is) ⊆ Before xs
  unfolding chained leads
  chained-sound [] x y t = absurd (false≢true t)
  chained-sound (i ∷ is) x y t = go (ltb i (length E) && eqb (edge_at E i).from x) refl t
    where
      go : (b : Bool) → ltb i (length E) && eqb (edge_at E i).from x ≡ b
          → So (arrives (elim b [ true ↦ leads E is (edge_at E i).to | false ↦ none ]) y) → Before xs x y
      go true u t = ends (leads E is (edge_at E i).to) refl t
        where
          p : (i < length E) × ((edge_at E i).from ≡ x)
          p = (and-iff so-lt so-eq).0 u

          ends : (o : Option ℕ) → leads E is (edge_at E i).to ≡ o → So (arrives o y) → Before xs x y
          ends (some z) q t = omega (arith, kept_at E xs k i p.0, ap (pos xs) p.1, leads-sound is (edge_at E i).to z q, ap (pos xs) ((so-eq {m = z} {n = y}).0 t))
          ends none q t = absurd (false≢true t)
      go false u t = absurd (false≢true t)

module _ (f : Frame) (g : Good f) (K : Table) (xs : List ℕ) (v : Valid f K xs) where
  pub fits-sound : (E : List Claim) (e : Entry) → Kept E xs → So (fits f K E e) → Before xs e.from e.to
  unfolding fits
  fits-sound E e k t =
      let p : So (branch_room E) × (So (may_rest e.rule (length e.rests)) × So (gives? f K nothing (chained E e.rests) e.from e.to e.rule))
      = (and-iff same-iff (and-iff same-iff same-iff)).0 t in
      gives-sound f g K xs v nothing (λ x y u. absurd (false≢true u)) (On (chained E e.rests)) (chained-sound E xs k e.rests)
      ((gives-iff f g K nothing (chained E e.rests) (On (chained E e.rests)) (λ x y. same-iff) e.from e.to e.rule).0 p.1.1)

  -- no branch that is closed is kept
  abbrev None : List (List Claim) → Type 0
  None [] = Unit {0}
  None (E ∷ Es) = (Kept E xs → ⊥) × None Es

  abbrev Rest : List Entry → Type 0
  Rest es = (Es : List (List Claim)) → So (refutes f K Es es) → None Es

  refutes-none : (es : List Entry) (Es : List (List Claim)) → So (refutes f K Es es) → None Es
  unfolding refutes splits
  refutes-none [] [] t = tt
  refutes-none [] (E ∷ Es) t = absurd (false≢true t)
  refutes-none (e ∷ es) [] t = tt
  refutes-none (e ∷ es) (E ∷ Es) t = go (refutes-none es) (eqb e.rule CLOSE) (eqb e.rule SPLIT) t
    where
      circle : Rest es → So (eqb e.from e.to && chained E e.rests e.from e.to && refutes f K Es es) → None (E ∷ Es)
      circle r t =
          let p : ((e.from ≡ e.to) × So (chained E e.rests e.from e.to)) × So (refutes f K Es es) = (and-iff (and-iff so-eq same-iff) same-iff).0 t in
          (λ k. omega (arith, chained-sound E xs k e.rests e.from e.to p.0.1, ap (pos xs) p.0.0), r Es p.1)

      split : Rest es → So (splits f E e && refutes f K (named E e.from e.to ∷ named E e.to e.from ∷ Es) es) → None (E ∷ Es)
      split r t =
          let p : So (splits f E e) × So (refutes f K (named E e.from e.to ∷ named E e.to e.from ∷ Es) es) = (and-iff same-iff same-iff).0 t in
          let s : So (branch_room E) × (((So (f.operation e.from) × So (f.operation e.to)) × (e.from ≢ e.to)) × (length e.rests ≡ 0))
          = (and-iff same-iff (and-iff (and-iff (and-iff same-iff same-iff) (not_iff so-eq)) so-eq)).0 p.0 in
          let n = r (named E e.from e.to ∷ named E e.to e.from ∷ Es) p.1 in (
            λ k. elim (either f xs v.all s.1.0.0.0 s.1.0.1) [
              | inl b ↦ n.0 (kept-named E xs e.from e.to k b)
              | inr b ↦ n.1.0 (kept-named E xs e.to e.from k b)
            ],
            n.1.1,
          )

      edge : Rest es → So (fits f K E e && refutes f K (named E e.from e.to ∷ Es) es) → None (E ∷ Es)
      edge r t =
          let p : So (fits f K E e) × So (refutes f K (named E e.from e.to ∷ Es) es) = (and-iff same-iff same-iff).0 t in
          let n = r (named E e.from e.to ∷ Es) p.1 in
          (λ k. n.0 (kept-named E xs e.from e.to k (fits-sound E e k p.0)), n.1)

      go : Rest es → (b c : Bool) → So (elim b [
        | true ↦ eqb e.from e.to && chained E e.rests e.from e.to && refutes f K Es es
        | false ↦ elim c [
          | true ↦ splits f E e && refutes f K (named E e.from e.to ∷ named E e.to e.from ∷ Es) es
          | false ↦ fits f K E e && refutes f K (named E e.from e.to ∷ Es) es
        ]
      ]) → None (E ∷ Es)
      go r true c t = circle r t
      go r false true t = split r t
      go r false false t = edge r t

pub accepted-sound : (f : Frame) → Good f → (K : Table) (es : List Entry) → So (accepted f K es) → (xs : List ℕ) → Valid f K xs → ⊥
unfolding accepted
accepted-sound f g K es t xs v = (refutes-none f g K xs v es ([] ∷ []) t).0 tt
