-- What the functions look at says what the plain search asks.
--
--   waiting-iff == a writer that waits
--   right-iff   == a read that is right
--   next_of     == an operation that may be next
--   child       == the two sets after one step
use mathlib.Core.Path.{◌≡◌, sym, ap, ◌∙◌, subst}
use mathlib.Core.Logic.{◌↔◌, ◌⊎◌, inl, inr}
use mathlib.Core.Bool.{false, So, not, ◌&&◌, ◌||◌, false≢true}
use mathlib.Core.List.{List, [], ◌∷◌, ◌++◌}
use Prim.Native.Nat.{ℕ, ◌<◌, ◌≤◌}
use native.Mathlib.Omega.{arith}
use Rattle.laws.specs.Places.{count}
use Rattle.laws.specs.Relation.{Table}
use Rattle.laws.specs.Latest.{Latest, nobody-yet, at}
use Rattle.laws.proofs.Tests.{and-iff, or-iff, not_iff, same-iff, test, off, eq?}
use Rattle.laws.proofs.Latest.{latest-of}
use Rattle.laws.proofs.Steps.{steps-join}
use Rattle.trace.specs.Bounds.{RECORDS}
use Rattle.rules.specs.Frame.{Frame, Source}
use Rattle.rows.specs.Rows.{bit}
use Rattle.rows.specs.Within.{Within}
use Rattle.rows.specs.inner.Sets.{More}
use Rattle.rows.proofs.Sets.{more-holds}
use Rattle.plain.specs.Plain.{waits, so_far, expected, Next}
use Rattle.plain.specs.inner.SameBelow.{Served}
use Rattle.plain.specs.inner.Remembered.{StandsFor}
use Rattle.plain.proofs.Next.{waits-iff}
use Rattle.plain.proofs.Remembered.{served-step}
use Rattle.counting.specs.inner.NextTests.{waiting_own, last_waiting, RightBy, Nexts, feeds, Fed}
use Rattle.counting.specs.inner.CountedWalk.{CountingTables, LaidTables}

module _ (f : Frame) (K : Table) (T : CountingTables) (laid : LaidTables f K T) (few : T.n ≤ RECORDS) (p placed served : List ℕ) (s : StandsFor f K p (bit placed 0) (bit served 0)) where
  -- not in the set, not in the list
  out : (x : ℕ) → bit placed 0 x ≡ false → count x p ≡ 0
  out x e = elim (eq? (count x p) 0) [ inl z ↦ z | inr n ↦ absurd (false≢true (sym e ∙ (s.holds x).1 (omega arith))) ]

  away : (x : ℕ) → count x p ≡ 0 → bit placed 0 x ≡ false
  away x e = off (λ t. omega (arith, (s.holds x).0 t))

  pub waiting-iff : (c S : ℕ) → c < T.n → So (waiting_own T.own placed c S) ↔ So (waits f p c S)
  unfolding waiting_own
  waiting-iff c S h =
      let i : So (bit T.own c S && not (bit placed 0 S)) ↔ _ = and-iff (laid.own S c h) (not_iff (s.holds S)) in (
        λ t. let r = i.0 t in (waits-iff f p c S).1 (r.0, omega (arith, r.1)),
        λ t. let r = (waits-iff f p c S).0 t in i.1 (r.0, λ k. omega (arith, r.1)),
      )

  module _ (c : ℕ) (h : c < T.n) (reads : So (f.reads c)) (unplaced : count c p ≡ 0) where
    below : (S : ℕ) → So (waits f p c S) → S < T.n
    below S t = omega (arith, laid.records, laid.good.below S (laid.good.writes S ((waits-iff f p c S).0 t).0.0.writes))

    pub right-iff : RightBy T.n T.own T.fed placed served c ↔ (f.read c ≡ expected f p c)
    unfolding expected last_waiting waiting_own
    right-iff = go (latest-of (waiting_own T.own placed c) (λ S. S) RECORDS T.n) (latest-of (waits f p c) f.written (so_far f p c) f.records)
      where
        R : Type 0
        R = RightBy T.n T.own T.fed placed served c ↔ (f.read c ≡ expected f p c)

        -- where nobody waits, who is served
        none-waits : ((S : ℕ) → So (waiting_own T.own placed c S) → ⊥) → expected f p c ≡ so_far f p c → R
        none-waits k q = (
          λ t. elim t [ inl (w, u) ↦ ((s.serves c).0 u).value ∙ sym q | inr (n, u) ↦ absurd (n all_placed) ],
          λ r. inl (all_placed, (s.serves c).1 (record { reads = reads; unplaced = unplaced; value = r ∙ q })),
        )
          where
            all_placed : Within T.own c placed 0
            all_placed S o = elim (test (bit placed 0 S)) [ inl t ↦ t | inr e ↦ absurd (k S ((and-iff same-iff (not_iff same-iff)).1 (o, λ t. false≢true (sym e ∙ t)))) ]

        -- where W is the last who waits, who reads from it
        waits-for : (W : ℕ) → W < T.n → So (waiting_own T.own placed c W) → last_waiting T.n T.own placed c ≡ W → expected f p c ≡ f.written W → R
        waits-for W l t e q =
            let w = ((waits-iff f p c W).0 ((waiting-iff c W h).0 t)).0.0 in
            let g = laid.good in
            let (o, u) : So (bit T.own c W) × (So (bit placed 0 W) → ⊥) = (and-iff (same-iff {a = bit T.own c W}) (not_iff (same-iff {a = bit placed 0 W}))).0 t in (
              λ r. elim r [
                | inl (i, _) ↦ absurd (u (i W o))
                | inr (_, v) ↦ ((laid.fed W c l).0 (subst (λ (S : ℕ). So (bit T.fed S c)) e v)).value ∙ sym q
              ],
              λ r. inr (
                λ i. u (i W o),
                subst (λ (S : ℕ). So (bit T.fed S c)) (sym e) ((laid.fed W c l).1
                    (record { writer = w; reads = reads; value = r ∙ q; later = λ z. g.fresh W w.writes (sym (r ∙ q) ∙ z ∙ ap f.first (sym w.same)) })),
              ),
            )

        go : Latest (waiting_own T.own placed c) (λ S. S) RECORDS T.n (last_waiting T.n T.own placed c) → Latest (waits f p c) f.written (so_far f p c) f.records (expected f p c) → R
        go (nobody-yet e k) (nobody-yet q m) = none-waits (λ S t. k S (below S ((waiting-iff c S h).0 t)) t) q
        go (nobody-yet e k) (at j b q t m) = absurd (k j (below j t) ((waiting-iff c j h).1 t))
        go (at W b e t k) (nobody-yet q m) = absurd (m W (omega (arith, laid.records)) ((waiting-iff c W h).0 t))
        go (at W b e t k) (at j b' q t' m) =
            let o : j ≡ W = omega (arith, k j (below j t') ((waiting-iff c j h).1 t'), m W (omega (arith, laid.records)) ((waiting-iff c W h).0 t)) in
            waits-for W b t e (q ∙ ap f.written o)

  pub next_of : (c : ℕ) → c < T.n → Nexts T.n T.operations T.reads T.partners T.own T.fed placed served c ↔ Next f K p c
  next_of c h = (
    λ r. record {
      operation = (laid.operation c).0 r.operation;
      unplaced = out c r.unplaced;
      partners = λ x t. (s.holds x).0 (r.after x ((laid.partners x c h).1 t));
      right = λ t. (right-iff c h t (out c r.unplaced)).0 (r.right ((laid.reads c).1 t));
    },
    λ r. record {
      operation = (laid.operation c).1 r.operation;
      unplaced = away c r.unplaced;
      after = λ x t. (s.holds x).1 (r.partners x ((laid.partners x c h).0 t));
      right = λ t. let q = (laid.reads c).0 t in (right-iff c h q r.unplaced).1 (r.right q);
    },
  )

  pub child : (y : ℕ) → y < T.n → Next f K p y → (with after : List ℕ) → More placed y with → Fed T.fed T.rivals with served y after
      → StandsFor f K (p ++ (y ∷ [])) (bit with 0) (bit after 0)
  unfolding feeds
  child y h n with after m w = record {
    built = steps-join (Next f K) [] p (y ∷ []) s.built (n, tt);
    holds = holds;
    serves = λ c. (λ t. there c ((w.has c).0 t), λ v. back c v);
  }
    where
      holds : (x : ℕ) → So (bit with 0 x) ↔ (0 < count x (p ++ (y ∷ [])))
      holds = more-holds placed p y with s.holds m

      -- who may be served is a record
      small : (c : ℕ) → Source f y c ⊎ (Served f p c × (So (bit T.rivals y c) → ⊥)) → c < T.n
      small c (inl u) = omega (arith, laid.records, laid.good.below c (laid.good.reads c u.reads))
      small c (inr u) = omega (arith, laid.records, laid.good.below c (laid.good.reads c u.0.reads))

      parts : (c : ℕ) → So ((bit T.fed y c || (bit served 0 c && not (bit T.rivals y c))) && not (bit with 0 c)) ↔ ((Source f y c ⊎ (Served f p c × (So (bit T.rivals y c) → ⊥))) × ((0 < count c (p ++ (y ∷ []))) → ⊥))
      parts c = and-iff (or-iff (laid.fed y c h) (and-iff (s.serves c) (not_iff same-iff))) (not_iff (holds c))

      there : (c : ℕ) → So (feeds T.fed T.rivals with served y c) → Served f (p ++ (y ∷ [])) c
      there c t =
          let (a, b) = (parts c).0 t in
          let r = laid.rivals y c h (small c a) in
          (served-step f laid.good p y c).1 (omega (arith, b), elim a [ inl u ↦ inl u | inr u ↦ inr (λ w. u.1 (r.1 w), u.0) ])

      back : (c : ℕ) → Served f (p ++ (y ∷ [])) c → So (bit after 0 c)
      back c v =
          let l : c < T.n = omega (arith, laid.records, laid.good.below c (laid.good.reads c v.reads)) in
          let r = laid.rivals y c h l in
          let (o, a) = (served-step f laid.good p y c).0 v in
          (w.has c).1 ((parts c).1 (elim a [ inl u ↦ inl u | inr u ↦ inr (u.1, λ k. u.0 (r.0 k)) ], λ k. omega (arith, o)))
