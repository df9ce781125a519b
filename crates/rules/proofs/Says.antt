-- There is one verdict, and it is faulty exactly where no valid order exists.
--
--   verdict-one                                == no second verdict
--   missing-none, circle-none                  == a missing source or a circle leaves no valid order
--   order-says                                 == the first valid order is the verdict wherever there is one
--   order-exactly, order-first, faulty-exactly == an order is handed back exactly where a valid one exists, and it is the first; otherwise none exists
use mathlib.Core.Path.{◌≡◌, refl, ap, subst}
use mathlib.Core.Logic.{◌↔◌}
use mathlib.Core.Bool.{So, false≢true}
use mathlib.Core.List.{List, []}
use mathlib.Core.Option.{Option, none, some, some-injective}
use Prim.Native.Nat.{ℕ, suc}
use Rattle.laws.specs.Relation.{Table}
use Rattle.laws.specs.Dict.{◌≼◌, Least}
use Rattle.laws.proofs.Lowest.{lowest-one}
use Rattle.laws.proofs.Dict.{answer-one}
use Rattle.rules.specs.Frame.{Frame, Good}
use Rattle.rules.specs.Order.{Sees, nobody, latest, Valid}
use Rattle.rules.specs.Rules.{nothing, Edge}
use Rattle.rules.specs.Missing.{Missing}
use Rattle.rules.specs.Circle.{Circle}
use Rattle.rules.specs.ShownCircle.{Circled}
use Rattle.rules.proofs.Sound.{contradicted-none}
use Rattle.rules.proofs.Circle.{circle-chain}
use Rattle.rules.proofs.ShownCircle.{circled-one}
use Rattle.rules.specs.Verdict.{Verdict, no_source, circle, order, none_left, Says, faulty}

module _ (f : Frame) (K : Table) where
  -- a circle and no circle
  clash : (c : List ℕ × List ℕ) → Circled f K (some c) → Circled f K none → ⊥
  clash c (k, s) h = h k c.0 s.shown.0

  pub verdict-one : (v w : Verdict) → Says f K v → Says f K w → v ≡ w
  verdict-one (no_source x) (no_source y) h k = ap no_source (some-injective x y (lowest-one (Missing f) (some x) (some y) h k))
  verdict-one (no_source x) (circle c rs) h k = absurd (k.0 x h.0)
  verdict-one (no_source x) (order xs) h k = absurd (k.0 x h.0)
  verdict-one (no_source x) none_left h k = absurd (k.0 x h.0)
  verdict-one (circle c rs) (no_source y) h k = absurd (h.0 y k.0)
  verdict-one (circle c rs) (circle d qs) h k =
      ap (λ (p : List ℕ × List ℕ). circle p.0 p.1) (some-injective (c, rs) (d, qs) (circled-one f K (some (c, rs)) (some (d, qs)) h.1 k.1))
  verdict-one (circle c rs) (order xs) h k = absurd (clash (c, rs) h.1 k.1)
  verdict-one (circle c rs) none_left h k = absurd (clash (c, rs) h.1 k.1)
  verdict-one (order xs) (no_source y) h k = absurd (h.0 y k.0)
  verdict-one (order xs) (circle d qs) h k = absurd (clash (d, qs) k.1 h.1)
  verdict-one (order xs) (order ys) h k = ap order (some-injective xs ys (answer-one (Valid f K) [] (some xs) (some ys) h.2 k.2))
  verdict-one (order xs) none_left h k = absurd (k.2 xs h.2.0)
  verdict-one none_left (no_source y) h k = absurd (h.0 y k.0)
  verdict-one none_left (circle d qs) h k = absurd (clash (d, qs) k.1 h.1)
  verdict-one none_left (order ys) h k = absurd (h.2 ys k.2.0)
  verdict-one none_left none_left h k = refl

  -- whom a load takes its value from is its source
  pub missing-none : (L : ℕ) → Missing f L → (xs : List ℕ) → Valid f K xs → ⊥
  missing-none L m xs v = go (v.value L m.reads)
    where
      go : Sees f xs L (f.read L) → ⊥
      go (nobody e h) = m.later e
      go (latest S e s h) = m.nobody S (record { writer = s.writer; reads = m.reads; value = e; later = m.later })

  module _ (g : Good f) where
    round-none : (k : ℕ) (c : List ℕ) → Circle (Edge f K nothing k) c → (xs : List ℕ) → Valid f K xs → ⊥
    round-none k c h xs v =
        let (x, r) = (circle-chain (Edge f K nothing k)).0 (c, h) in
        contradicted-none f g K nothing (x, (suc k, r)) xs v (λ x y t. absurd (false≢true t))

    pub circle-none : (c : List ℕ × List ℕ) → Circled f K (some c) → (xs : List ℕ) → Valid f K xs → ⊥
    circle-none c (k, s) = round-none k c.0 s.shown.0

    pub order-says : (xs : List ℕ) → Says f K (order xs) ↔ Least (Valid f K) (some xs)
    order-says xs = (λ s. s.2, λ a. (λ L m. missing-none L m xs a.0, λ k c h. round-none k c h xs a.0, a))

    pub faulty-exactly : (v : Verdict) → Says f K v → So (faulty v) ↔ ((xs : List ℕ) → Valid f K xs → ⊥)
    faulty-exactly (no_source x) s = (λ _. missing-none x s.0, λ _. refl)
    faulty-exactly (circle c rs) s = (λ _. circle-none (c, rs) s.1, λ _. refl)
    faulty-exactly (order xs) s = (λ t. absurd (false≢true t), λ h. absurd (h xs s.2.0))
    faulty-exactly none_left s = (λ _. s.2, λ _. refl)

    pub order-exactly : (v : Verdict) → Says f K v → ((xs : List ℕ) × (v ≡ order xs)) ↔ ((xs : List ℕ) × Valid f K xs)
    order-exactly v s = (λ o. (o.0, (subst (Says f K) o.1 s).2.0), λ o. handed v s (λ t. (faulty-exactly v s).0 t o.0 o.1))
      where
        handed : (v : Verdict) → Says f K v → (So (faulty v) → ⊥) → (xs : List ℕ) × (v ≡ order xs)
        handed (no_source x) s n = absurd (n refl)
        handed (circle c rs) s n = absurd (n refl)
        handed (order xs) s n = (xs, refl)
        handed none_left s n = absurd (n refl)

  pub order-first : (xs : List ℕ) → Says f K (order xs) → Valid f K xs × ((ys : List ℕ) → Valid f K ys → xs ≼ ys)
  order-first xs s = s.2
