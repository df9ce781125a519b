-- A valid order is the order of a run: each core runs its records as late as it can.
--
--   goes-join == one part of a run after the other
--   k-run     == before operation c has its turn, its core may run what stands before c: stores that stay in the buffer, and fences that find it empty
--   c-run     == then c may run
--   c-oldest  == or, where it ran, it is the oldest entry of its core's buffer
--   left      == with every operation in memory the fences that are left may run
--   goes-bound == no run is longer than twice the records
use mathlib.Core.Path.{◌≡◌, sym, ap, ◌∙◌}
use mathlib.Core.Logic.{inl, inr}
use mathlib.Core.Bool.{false, So, false≢true}
use mathlib.Core.List.{List, [], ◌∷◌, ◌++◌}
use Prim.Native.Nat.{ℕ, ◌+◌, ◌*◌, ◌≤◌, ◌<◌}
use native.Mathlib.Decide.{dec_lt}
use native.Mathlib.Omega.{arith}
use lib.ListN.{length, length-append}
use Rattle.laws.specs.Places.{count}
use Rattle.laws.specs.Relation.{Table}
use Rattle.laws.proofs.Tests.{off}
use Rattle.laws.proofs.Places.{pos-lt}
use Rattle.laws.proofs.Prefixes.{pos-in, pos-out}
use Rattle.laws.proofs.Counts.{count-mid, repeats}
use Rattle.rules.specs.Frame.{Good}
use Rattle.rules.specs.Order.{Visible, Sees, nobody, latest, Valid}
use Rattle.rules.proofs.Seen.{operation-there}
use Rattle.rules.proofs.Ready.{in-before, before-in, not-before}
use Rattle.machine.proofs.History.{◌∈◌, Cores, Waits, Own, Stored, Got, buffered, stored, initial, Alone, Run, Empty, Go, through, enters, empties, Goes, done, more, Laws}
use Rattle.machine.proofs.Snoc.{in?}
use Rattle.machine.proofs.Invariant.{Sound, nothing-sound, goes-sound, ran-before, waits-store}

pub goes-join : (B : Cores) {r p r' p' r'' p'' a b : List ℕ} → Goes B r p a r' p' → Goes B r' p' b r'' p'' → Goes B r p (a ++ b) r'' p''
goes-join B done h = h
goes-join B (more g a) h = more g (goes-join B a h)

module _ (B : Cores) (good : Good B.frame) (K : Table) (l : Laws B K) where
  module _ (p : List ℕ) (c : ℕ) (rest : List ℕ) (v : Valid B.frame K (p ++ c ∷ rest)) where
    pub c-operation : So (B.frame.operation c)
    c-operation = operation-there B.frame (p ++ c ∷ rest) v.all c (count-mid p c rest)

    pub c_out : count c p ≡ 0
    c_out = not-before B.frame p c rest v.all

    -- what is kept before c reached memory
    kept_there : (x : ℕ) → So (K x c) → x ∈ p
    kept_there x k = before-in B.frame p c rest v.all x (v.kept x c k)

    module _ {r : List ℕ} (s : Sound B K r p) where
      -- where c has not run: a record of its core before it that has not run either
      module _ (fresh : count c r ≡ 0) (k : ℕ) (b : k < c) (e : B.thread k ≡ B.thread c) (new : count k r ≡ 0) where
        k-early : So (B.frame.earlier k c)
        k-early = l.ordered k c b e

        pub k_off : B.lands k ≡ false
        k_off = off (λ t. omega (arith, new, s.ran k (kept_there k (l.from-landed k c k-early (l.lands-operation k t) c-operation t))))

        k-alone : Alone B k → (w : ℕ) → B.thread w ≡ B.thread k → Waits B r p w → ⊥
        k-alone (inr a) w q h = false≢true (sym k_off ∙ a.1)
        k-alone (inl a) w q h =
            let i = kept_there w (l.over-fence w k c (ran-before B K l s w k h.ran new q) k-early a h.operation c-operation) in
            omega (arith, i, h.out)

        pub k-run : ((w : ℕ) → w < k → B.thread w ≡ B.thread c → w ∈ r) → Run B r p k
        k-run all = record {
          used = omega (arith, good.below c c-operation);
          fresh = new;
          next = λ w h. let o = l.order w k h in all w o.0 (o.1 ∙ e);
          alone = k-alone;
          value = λ t. absurd (false≢true (sym k_off ∙ l.reads-lands k t));
        }

      -- where c has not run and all before it did
      module _ (fresh : count c r ≡ 0) (all : (w : ℕ) → So (B.frame.earlier w c) → w ∈ r) where
        c-alone : Alone B c → (w : ℕ) → B.thread w ≡ B.thread c → Waits B r p w → ⊥
        c-alone (inl a) w q h = false≢true (sym a ∙ c-operation)
        c-alone (inr a) w q h =
            let i = kept_there w (l.to-writer w c (ran-before B K l s w c h.ran fresh q) h.operation c-operation a.0) in
            omega (arith, i, h.out)

        c-visible : (S : ℕ) → Own B r p S c → Visible B.frame (p ++ c ∷ rest) S c
        c-visible S w = record {
          writer = record { writes = waits-store B K l s S w.waits; same = w.there; other = λ q. omega (arith, w.waits.ran, fresh, ap (λ (y : ℕ). count y r) q) };
          early = inr (ran-before B K l s S c w.waits.ran fresh w.core);
        }

        s-visible : (S : ℕ) → Stored B p S c → Visible B.frame (p ++ c ∷ rest) S c
        s-visible S w = record {
          writer = record { writes = w.writes; same = w.there; other = λ q. omega (arith, w.reached, c_out, ap (λ (y : ℕ). count y p) q) };
          early = inl (in-before B.frame p c rest v.all S w.reached);
        }

        gets : {u : ℕ} → Sees B.frame (p ++ c ∷ rest) c u → Got B r p c u
        gets (nobody q h) = initial (λ S w. h S (c-visible S w)) (λ S w. h S (s-visible S w)) q
        gets (latest S q w h) = elim (in? S p) [
          | inl i ↦ stored
              (λ S' o. omega (arith, h S' (c-visible S' o), pos-in S p (c ∷ rest) i, pos-lt p S i, pos-out S' p (c ∷ rest) o.waits.out))
              S (record { reached = i; writes = w.writer.writes; there = w.writer.same }) q
              (λ S' o. omega (arith, h S' (s-visible S' o), pos-in S p (c ∷ rest) i, pos-in S' p (c ∷ rest) o.reached))
          | inr i ↦ elim w.early [
            | inl b ↦ absurd (omega (arith, before-in B.frame p c rest v.all S b, i))
            | inr b ↦
                let own : Own B r p S c = record { waits = record { operation = good.writes S w.writer.writes; ran = all S b; out = i }; core = (l.order S c b).1; there = w.writer.same } in
                buffered S own q (λ S' o. elim (dec_lt S S') [
                  | yes d ↦
                      let k = l.to-writer S S' (l.ordered S S' d (own.core ∙ sym o.core)) own.waits.operation o.waits.operation (waits-store B K l s S' o.waits) in
                      absurd (omega (arith, v.kept S S' k, h S' (c-visible S' o)))
                  | no d ↦ omega arith
                ])
          ]
        ]

        pub c-run : Run B r p c
        c-run = record { used = good.below c c-operation; fresh = fresh; next = all; alone = c-alone; value = λ t. gets (v.value c t) }

      pub c-oldest : c ∈ r → Empty B r p c
      c-oldest h =
          let here : Waits B r p c = record { operation = c-operation; ran = h; out = c_out } in
          record {
            waits = here;
            oldest = λ w k e. elim (dec_lt w c) [
              | yes b ↦ absurd (omega (arith, k.out, kept_there w (l.to-writer w c (l.ordered w c b e) k.operation c-operation (waits-store B K l s c here))))
              | no b ↦ omega arith
            ];
          }

  -- with every operation in memory, what is left is fences
  module _ (p : List ℕ) (full : (x : ℕ) → So (B.frame.operation x) → x ∈ p) where
    pub nobody-waits : {r : List ℕ} → (w : ℕ) → Waits B r p w → ⊥
    nobody-waits w h = omega (arith, h.out, full w h.operation)

    pub left : {r : List ℕ} → Sound B K r p → (k : ℕ) → k < B.frame.records → count k r ≡ 0 → ((w : ℕ) → w < k → w ∈ r) → Go B r p (B.thread k) (k ∷ r) p
    left s k b z all = enters k
        (record {
          used = b;
          fresh = z;
          next = λ w h. all w (l.order w k h).0;
          alone = λ _ w _ h. nobody-waits w h;
          value = λ t. absurd (omega (arith, z, s.ran k (full k (good.reads k t))));
        })
        (off (λ t. omega (arith, z, s.ran k (full k (l.lands-operation k t)))))

  goes-long : {r p r' p' ss : List ℕ} → Goes B r p ss r' p' → length ss + length r + length p ≤ length r' + length p'
  goes-long done = omega arith
  goes-long (more {p} (through x g t) h) = omega (arith, goes-long h, length-append p (x ∷ []))
  goes-long (more (enters x g t) h) = omega (arith, goes-long h)
  goes-long (more {p} (empties x g) h) = omega (arith, goes-long h, length-append p (x ∷ []))

  short : (n : ℕ) (q : List ℕ) → ((x : ℕ) → count x q ≤ 1) → ((x : ℕ) → x ∈ q → x < n) → length q ≤ n
  short n q few under = elim (dec_lt n (length q)) [
    | yes h ↦ let (x, d) = repeats n q under h in absurd (omega (arith, few x, d))
    | no h ↦ omega arith
  ]

  -- no list of possible steps is longer than twice the records
  pub goes-bound : {r p ss : List ℕ} → Goes B [] [] ss r p → length ss ≤ 2 * B.frame.records
  goes-bound {r} {p} h =
      let s = goes-sound B K l h (nothing-sound B K) in
      omega (arith, goes-long h, short B.frame.records r s.few s.under, short B.frame.records p s.once (λ x i. s.under x (s.ran x i)))
