-- The closing, round by round. A loop stops at the first round that has a circle, or that is the last; it cites these.
--
--   circle-contradicted, closing-circle   == a round with a circle: contradicted, and the empty table answers
--   last-by, last-next                    == nothing added below the bound, or by rules 6 and 7: the round is the last
--   last-chains, last-clear, closing-last == a last round without a circle: its chains are what is held, nothing is contradicted, and they answer
--   closing-one                           == no second answer fits
--   contradicted?, held?                  == the word and the table, computed: by round n * n some round has added nothing
--   closing-computed                      == they answer
--   closing-sound                         == what the table has is so in every valid order that keeps the supposed pairs
use mathlib.Core.Path.{◌≡◌, refl}
use mathlib.Core.Logic.{◌⊎◌, inl, inr, ◌↔◌}
use mathlib.Core.Bool.{Bool, true, false, So, not, ◌&&◌, false≢true}
use mathlib.Core.List.{List}
use Prim.Native.Nat.{ℕ, suc, ◌*◌, ◌<◌}
use native.Mathlib.Omega.{arith}
use Rattle.laws.specs.Places.{Before}
use Rattle.laws.specs.Tests.{any}
use Rattle.laws.specs.Relation.{Table}
use Rattle.laws.proofs.Tests.{and-iff, not_iff, any-iff}
use Rattle.laws.proofs.Lowest.{test-one}
use Rattle.rules.specs.Frame.{Frame, Good}
use Rattle.rules.specs.Order.{Keeps, Valid}
use Rattle.rules.specs.Rules.{Gives, Chains, Edge, Last, Held, Contradicted, InRecords}
use Rattle.rules.specs.ComputedRounds.{chains?}
use Rattle.rules.specs.Closing.{Closing}
use Rattle.rules.proofs.Rounds.{chains-later, last-held, edge-next}
use Rattle.rules.proofs.Ends.{step-within, chains-within}
use Rattle.rules.proofs.RuleTests.{chains-iff, last-round}
use Rattle.rules.proofs.Sound.{held-sound}

-- a chain leads from an operation to itself, by a round by which some round has added nothing
unfoldable pub contradicted? : Frame → Table → Table → Bool
contradicted? f K P = any f.records (λ x. chains? f K P (suc (f.records * f.records)) x x)

-- and what is held then
unfoldable pub held? : Frame → Table → Table → Table
held? f K P x y = chains? f K P (suc (f.records * f.records)) x y && not (contradicted? f K P)

module _ (f : Frame) (K P : Table) where
  pub circle-contradicted : (k x : ℕ) → Chains f K P (suc k) x x → Contradicted f K P
  circle-contradicted k x c = (x, (suc k, c))

  pub closing-circle : (k x : ℕ) → Chains f K P (suc k) x x → (t : Table) → ((x y : ℕ) → So (t x y) → ⊥) → Closing f K P true t
  closing-circle k x c t empty = record {
    contradicted = (λ _. circle-contradicted k x c, λ _. refl);
    held = λ x y. (λ u. absurd (empty x y u), λ h. absurd (h.1 (circle-contradicted k _ c)));
  }

  pub last-next : (k : ℕ) → ((x y : ℕ) → Gives f K P (Chains f K P (suc k)) x y 6 ⊎ Gives f K P (Chains f K P (suc k)) x y 7 → Edge f K P k x y) → Last f K P k
  unfolding Last
  last-next k h x y e = elim ((edge-next f K P k x y).0 e) [ inl a ↦ a | inr a ↦ h x y a ]

  pub last-chains : (k : ℕ) → Last f K P k → (x y : ℕ) → Held f K P x y ↔ Chains f K P (suc k) x y
  last-chains k l x y = (λ h. last-held f K P k l x y h, λ c. (suc k, c))

  pub last-clear : (k : ℕ) → Last f K P k → ((x : ℕ) → Chains f K P (suc k) x x → ⊥) → Contradicted f K P → ⊥
  last-clear k l clear c = clear c.0 ((last-chains k l c.0 c.0).0 c.1)

  pub closing-last : (k : ℕ) → Last f K P k → ((x : ℕ) → Chains f K P (suc k) x x → ⊥) → (t : Table) → ((x y : ℕ) → So (t x y) ↔ Chains f K P (suc k) x y) → Closing f K P false t
  closing-last k l clear t q = record {
    contradicted = (λ u. absurd (false≢true u), λ c. absurd (last-clear k l clear c));
    held = λ x y. (λ u. ((suc k, (q x y).0 u), last-clear k l clear), λ h. (q x y).1 ((last-chains k l x y).0 h.0));
  }

  pub closing-one : (b c : Bool) (s t : Table) → Closing f K P b s → Closing f K P c t → (b ≡ c) × ((x y : ℕ) → s x y ≡ t x y)
  closing-one b c s t p q = (test-one b c p.contradicted q.contradicted, λ x y. test-one (s x y) (t x y) (p.held x y) (q.held x y))

  pub closing-sound : Good f → (bad : Bool) (t : Table) → Closing f K P bad t → (x y : ℕ) → So (t x y) → (xs : List ℕ) → Valid f K xs → Keeps P xs → Before xs x y
  closing-sound g bad t h x y u xs v p = held-sound f g K xs v P p x y ((h.held x y).0 u).0

  module _ (g : Good f) (inK : InRecords f K) (in_p : InRecords f P) where
    pub last-by : (k : ℕ) → ((x y : ℕ) → x < f.records → y < f.records → Edge f K P (suc k) x y → Edge f K P k x y) → Last f K P k
    unfolding Last
    last-by k h x y e = let b = step-within f g K P inK in_p (Chains f K P (suc k)) x y e in h x y b.0 b.1 e

    -- by round n * n all is there
    late : (x y : ℕ) → So (chains? f K P (suc (f.records * f.records)) x y) ↔ Held f K P x y
    late x y =
        let i = chains-iff f g K P inK in_p (suc (f.records * f.records)) x y in
        let r = last-round f g K P inK in_p in
        (λ t. (suc (f.records * f.records), i.0 t), λ h. i.1 (chains-later f K P (suc r.0) (suc (f.records * f.records)) (omega arith) x y ((last-chains r.0 r.2 x y).0 h)))

    pub closing-computed : Closing f K P (contradicted? f K P) (held? f K P)
    unfolding contradicted? held?
    closing-computed = record { contradicted = circled; held = λ x y. and-iff (late x y) (not_iff circled) }
      where
        circled : So (any f.records (λ x. chains? f K P (suc (f.records * f.records)) x x)) ↔ Contradicted f K P
        circled =
            let a : So (any f.records (λ x. chains? f K P (suc (f.records * f.records)) x x)) ↔ ((x : ℕ) × (x < f.records) × Held f K P x x) = any-iff (λ x. late x x) in
            (λ t. let r = a.0 t in (r.0, r.2), λ c. a.1 (c.0, (chains-within f g K P inK in_p c.1.0 c.0 c.0 c.1.1).0, c.1))
