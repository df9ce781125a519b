-- The memory of the search.
--
--   noted_in            == a set written in the place of a slot is noted
--   part-long, has_part == the part of a slot is as long as a set; a part that is the set is a slot that has it
--   dead-none           == a memory of empty sets is right
--   dead-has            == where it has the set of a list, nothing goes on from there
--   dead-noted          == it stays right with the set of a list from which nothing goes on
use mathlib.Core.Path.{◌≡◌, refl, sym, ap, ◌∙◌, subst}
use mathlib.Core.Logic.{◌≢◌, ◌⊎◌, inl, inr}
use mathlib.Core.List.{List, ◌++◌}
use mathlib.Core.Option.{none}
use Prim.Native.Nat.{ℕ, ◌+◌, ◌-◌, ◌*◌, ◌<◌, ◌≤◌}
use native.Mathlib.Decide.{dec_lt}
use native.Mathlib.Omega.{arith}
use lib.ListN.{length, get_or, take, drop, length-append, length-take, length-drop, length-replicate, get_or-replicate, get_or-append}
use lib.Seq.{length-take-le, get_or-take, get_or-drop, get_or-append-add, take_at, drop_at, ext_get_or}
use Rattle.laws.specs.Relation.{Table}
use Rattle.laws.specs.Dict.{Answer}
use Rattle.laws.specs.inner.Steps.{Same}
use Rattle.laws.proofs.Tests.{eq?}
use Rattle.rules.specs.Frame.{Frame}
use Rattle.rules.specs.Order.{Valid}
use Rattle.rows.specs.Bounds.{WORDS}
use Rattle.rows.specs.Empty.{empty_of}
use Rattle.rules.proofs.Ready.{exchange-none}
use Rattle.search.specs.inner.Bounds.{SLOTS}
use Rattle.search.specs.inner.SearchTables.{Tables, Led, Laid}
use Rattle.rows.specs.inner.Sets.{Holds}
use Rattle.search.specs.inner.DeadSets.{slot_of, Recalls, Noted, BuiltSet, Dead}
use Rattle.rows.proofs.Sets.{empty-only}

-- the list with a set in the place of the words from a on
abbrev written : ℕ → List ℕ → List ℕ → List ℕ
written a dead set = take a dead ++ (set ++ drop WORDS (drop a dead))

module _ (dead set : List ℕ) (r : ℕ) (fits : r * WORDS + WORDS ≤ length dead) (l : length set ≡ WORDS) where
  abbrev front : ℕ
  front = r * WORDS

  front_long : length (take front dead) ≡ front
  front_long = length-take-le front dead (omega arith)

  rest-long : length (drop WORDS (drop front dead)) ≡ length dead - front - WORDS
  rest-long = rw (length-drop, length-drop) refl

  written-long : length (written front dead set) ≡ length dead
  written-long = omega (arith, length-append (take front dead) (set ++ drop WORDS (drop front dead)), length-append set (drop WORDS (drop front dead)), front_long, rest-long)

  -- elsewhere nothing changes
  before-it : (j : ℕ) → j < front → get_or (written front dead set) j 0 ≡ get_or dead j 0
  before-it j h = get_or-append (take front dead) _ 0 j (omega (arith, front_long)) ∙ get_or-take front dead j 0 h

  after-it : (j : ℕ) → front + WORDS ≤ j → get_or (written front dead set) j 0 ≡ get_or dead j 0
  after-it j h =
      let i : ℕ = j - front - WORDS in
      let e₁ : j ≡ length (take front dead) + (length set + i) = omega (arith, front_long) in
      let e₂ : front + (WORDS + i) ≡ j = omega arith in
      ap (λ m. get_or (written front dead set) m 0) e₁
      ∙ get_or-append-add (take front dead) (set ++ drop WORDS (drop front dead)) (length set + i) 0
      ∙ get_or-append-add set (drop WORDS (drop front dead)) i 0
      ∙ get_or-drop WORDS (drop front dead) i 0
      ∙ get_or-drop front dead (WORDS + i) 0
      ∙ ap (λ m. get_or dead m 0) e₂

  slot-here : slot_of (written front dead set) r ≡ set
  unfolding slot_of
  slot-here = rw (drop_at (take front dead) (set ++ drop WORDS (drop front dead)) front front_long) (take_at set _ WORDS l)

  slot-other : (s : ℕ) → s ≢ r → slot_of (written front dead set) s ≡ slot_of dead s
  unfolding slot_of
  slot-other s d =
      ext_get_or 0 _ _ (rw (length-take, length-take, length-drop, length-drop, written-long) refl)
      (λ i h. let w : i < WORDS = omega (arith, length-take WORDS (drop (s * WORDS) (written front dead set))) in
      get_or-take WORDS (drop (s * WORDS) (written front dead set)) i 0 w
      ∙ get_or-drop (s * WORDS) (written front dead set) i 0
      ∙ elim (dec_lt s r) [ yes b ↦ before-it (s * WORDS + i) (omega arith) | no b ↦ after-it (s * WORDS + i) (omega arith) ]
      ∙ sym (get_or-drop (s * WORDS) dead i 0)
      ∙ sym (get_or-take WORDS (drop (s * WORDS) dead) i 0 w))

  pub noted_in : (k : ℕ) → k ≡ WORDS → Noted dead set (take front dead ++ (set ++ drop k (drop front dead)))
  noted_in k e = rw e (record {
    long = written-long;
    slot = λ s. elim (eq? s r) [ inl q ↦ inr (rw q slot-here) | inr d ↦ inl (slot-other s d) ];
  })

pub part-long : (dead : List ℕ) (r k : ℕ) → k ≡ WORDS → r * WORDS + WORDS ≤ length dead → length (take k (drop (r * WORDS) dead)) ≡ WORDS
part-long dead r k e h = length-take-le k (drop (r * WORDS) dead) (omega (arith, length-drop (r * WORDS) dead)) ∙ e

pub has_part : (dead set : List ℕ) (r k : ℕ) → r < SLOTS → k ≡ WORDS → take k (drop (r * WORDS) dead) ≡ set → Recalls dead set
unfolding slot_of
has_part dead set r k h e q = (r, h, rw e at q)

-- every slot of an empty memory is empty
slot-empty : (s : ℕ) → s < SLOTS → slot_of (empty_of (SLOTS * WORDS)) s ≡ empty_of WORDS
unfolding slot_of
slot-empty s h =
    let m : ℕ = SLOTS * WORDS in
    let long = length-drop (s * WORDS) (empty_of m) in
    let n = length-replicate {A = ℕ} m 0 in
    ext_get_or 0 _ _ (length-take-le WORDS (drop (s * WORDS) (empty_of m)) (omega arith) ∙ sym (length-replicate {A = ℕ} WORDS 0))
    (λ i l. let w : i < WORDS = omega (arith, length-take WORDS (drop (s * WORDS) (empty_of m))) in
    get_or-take WORDS (drop (s * WORDS) (empty_of m)) i 0 w
    ∙ get_or-drop (s * WORDS) (empty_of m) i 0
    ∙ get_or-replicate m (s * WORDS + i) 0 0 (omega arith)
    ∙ sym (get_or-replicate WORDS i 0 0 w))

pub dead-none : (f : Frame) (K : Table) (before : List ℕ) → Dead f K before (empty_of (SLOTS * WORDS))
dead-none f K before s h p b l = absurd (empty-only WORDS p (subst (λ (set : List ℕ). Holds set p) (slot-empty s h) b.holds) l)

module _ (f : Frame) (K : Table) (T : Tables) (laid : Laid f K T) (p placed dead : List ℕ) (b : BuiltSet f T.before p placed) (d : Dead f K T.before dead) where
  pub dead-has : 0 < length p → Recalls dead placed → Answer (Valid f K) p none
  dead-has l (s, h, e) = d s h p (record { built = b.built; holds = subst (λ (set : List ℕ). Holds set p) (sym e) b.holds }) l

  pub dead-noted : (next : List ℕ) → Answer (Valid f K) p none → Noted dead placed next → Dead f K T.before next
  dead-noted next a w s h q c l = go (w.slot s)
    where
      go : (slot_of next s ≡ slot_of dead s) ⊎ (slot_of next s ≡ placed) → Answer (Valid f K) q none
      go (inl e) = d s h q (subst (λ (set : List ℕ). BuiltSet f T.before q set) e c) l
      go (inr e) =
          let same : Same q p = λ x. (
            λ k. (b.holds x).0 ((subst (λ (set : List ℕ). Holds set q) e c.holds x).1 k),
            λ k. (subst (λ (set : List ℕ). Holds set q) e c.holds x).0 ((b.holds x).1 k),
          ) in
          exchange-none f laid.good K (Led T.before) laid.guide laid.sourced q p same b.built a
