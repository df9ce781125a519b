-- The steps of the search below the first k places of a list, within a budget.
--
--   counts-full                == all places are taken
--   going-none, going-skip, going-failed == the loop: before the first number; one that may not be next; one below which the search came to its end
--   counts-spent, counts-order, counts-over, counts_end == no step is left; an order below; not enough is left below; the end
use mathlib.Core.Path.{◌≡◌, refl, sym, ap, ap₂, ◌∙◌, subst}
use mathlib.Core.Logic.{inl, inr}
use mathlib.Core.Bool.{Bool, true, false, So, cond, false≢true}
use mathlib.Core.List.{List, [], ◌∷◌, ◌++◌}
use mathlib.Core.Option.{Option, some}
use Prim.Native.Nat.{ℕ, suc, ◌+◌, ◌-◌, ◌<◌, ◌≤◌}
use native.Mathlib.Numerals.{add-one}
use native.Mathlib.Decide.{dec_lt}
use native.Mathlib.Omega.{arith}
use lib.Dec.{leb}
use lib.ListN.{length, get_or, set, take, drop}
use lib.Seq.{get_or-set_same, get_or-set_other, length-take-le, take-suc-set, take-take, take_at, drop-cons, get_or-take, get_or_at, drop-length}
use Rattle.laws.specs.Relation.{Table}
use Rattle.laws.proofs.Tests.{off, so-le, eq?}
use Rattle.rules.specs.Frame.{Frame}
use Rattle.rows.specs.Rows.{bit}
use Rattle.rows.specs.inner.Sets.{More}
use Rattle.plain.specs.Plain.{next?, plain}
use Rattle.plain.specs.inner.BudgetedWalk.{Looped}
use Rattle.plain.specs.inner.Remembered.{StandsFor, Remembered}
use Rattle.plain.proofs.Remembered.{remember}
use Rattle.rules.specs.Ready.{operations}
use Rattle.plain.proofs.Next.{next-iff}
use Rattle.plain.proofs.BudgetedWalk.{looped-none, looped-skip, looped-failed, looped-found, looped-over, looped-spent, looped-end}
use Rattle.counting.specs.inner.NextTests.{Nexts, Fed}
use Rattle.counting.specs.inner.CountedWalk.{CountingTables, LaidTables, CountingRoom, Brings, FitsBudget, Counts, Going, recalled_of}
use Rattle.counting.specs.inner.FailedLists.{LISTS, list_slot, Put, Recalled}
use Rattle.counting.specs.declared.Walked.{Walked}
use Rattle.counting.specs.declared.Walked.TheVariants.{Order, End, Over}
use Rattle.counting.proofs.Sets.{next_of, child}

-- the list with x at place d
wrote : (o : List ℕ) (d x : ℕ) → d < length o → take (d + 1) (set o d x) ≡ take d o ++ (x ∷ [])
wrote o d x h = rw (add-one d) (take-suc-set o d x h)

-- the list e begins with p and then x
module _ (p e : List ℕ) (d x : ℕ) (lp : length p ≡ d) (is : take (d + 1) e ≡ p ++ (x ∷ [])) where
  prefix : take d e ≡ p
  prefix = sym (take-take d (d + 1) e (omega arith)) ∙ ap (take d) is ∙ take_at p (x ∷ []) d lp

  head : get_or e d 0 ≡ x
  head = sym (get_or-take (d + 1) e d 0 (omega arith)) ∙ ap (λ (l : List ℕ). get_or l d 0) is ∙ get_or_at p x [] 0 d lp

  tail : (m : ℕ) → d < m → m ≤ length e → drop d (take m e) ≡ x ∷ drop (d + 1) (take m e)
  tail m h l =
      let k = length-take-le m e l in
      drop-cons (take m e) d 0 (omega arith)
      ∙ ap₂ (λ (y i : ℕ). y ∷ drop i (take m e)) (get_or-take m e d 0 h ∙ head) (sym (add-one d))

module _ (T : CountingTables) (list : List ℕ) (k : ℕ) (placed served : List ℕ) (left : ℕ) (sets serves counts : List ℕ) (room : CountingRoom T k list placed served sets serves counts) where
  abbrev p : List ℕ
  p = take k list

  taken : length p ≡ k
  taken = length-take-le k list (omega (arith, room.places, room.left))

  pub counts-full : k ≡ T.total → Counts T list k placed served left sets serves counts list sets serves counts (Order 0)
  unfolding plain
  counts-full e = record {
    kept = refl;
    right = λ f K laid s m.
        let nothing : drop k (take T.total list) ≡ [] = rw (sym e) (ap (λ (m : ℕ). drop m (take k list)) (sym taken) ∙ drop-length (take k list)) in
        let z : T.total - k ≡ 0 = omega arith in
        (ap (λ (d : ℕ). plain f K d p) z ∙ ap (λ (l : List ℕ). (0, some l)) (sym nothing), m);
    within = omega arith;
  }

  pub going-none : Going T list k placed served left sets serves counts 0 0 list sets serves counts
  going-none = record {
    below = omega arith;
    budget = omega arith;
    listed = refl;
    kept = refl;
    slots = refl;
    slots' = refl;
    numbers = refl;
    looped = λ f K laid s m. (looped-none f K (T.total - suc k) p, m);
  }

  -- what slot h says is what it says of this list
  told : (h : ℕ) → h < LISTS → list_slot sets h ≡ placed → list_slot serves h ≡ served → (f : Frame) (K : Table) → Recalled f K sets serves counts → Remembered f K (bit placed 0) (bit served 0) (get_or counts h 0)
  told h l e e' f K m = subst (λ (a : List ℕ). Remembered f K (bit a 0) (bit served 0) (get_or counts h 0)) e (subst (λ (b : List ℕ). Remembered f K (bit (list_slot sets h) 0) (bit b 0) (get_or counts h 0)) e' (m h l))

  same : (f : Frame) (K : Table) → LaidTables f K T → plain f K (T.total - k) p ≡ plain f K (operations f - length p) p
  same f K laid = ap₂ (λ (a b : ℕ). plain f K (a - b) p) (sym laid.total) (sym taken)

  pub counts-recalled : (h : ℕ) → h < LISTS → 0 < k → list_slot sets h ≡ placed → list_slot serves h ≡ served → Counts T list k placed served left sets serves counts list sets serves counts (recalled_of (get_or counts h 0) left)
  counts-recalled h l some-placed e e' = go (leb (get_or counts h 0) left) refl
    where
      go : (b : Bool) → leb (get_or counts h 0) left ≡ b → Counts T list k placed served left sets serves counts list sets serves counts (cond b (End (get_or counts h 0)) Over)
      go true q = record { kept = refl; right = λ f K laid s m. (same f K laid ∙ told h l e e' f K m p s (omega (arith, taken)), m); within = so-le.0 q }
      go false q = record {
        kept = refl;
        right = λ f K laid s m. (
          let z = ap (λ (r : ℕ × Option (List ℕ)). r.0) (same f K laid ∙ told h l e e' f K m p s (omega (arith, taken))) in
              let o : left < get_or counts h 0 = elim (dec_lt left (get_or counts h 0)) [ yes w ↦ w | no w ↦ absurd (false≢true (sym q ∙ (so-le {m = get_or counts h 0} {n = left}).1 (omega arith))) ] in
              omega (arith, z, o),
          m,
        );
        within = tt;
      }

  module _ (space : k < T.total) where
    -- one place is left at least
    places-left : T.total - k ≡ suc (T.total - suc k)
    places-left = omega arith

    pub counts_end : (y used : ℕ) (list' sets' serves' counts' : List ℕ) → Going T list k placed served left sets serves counts y used list' sets' serves' counts' → T.n ≤ y
        → (h : ℕ) → h < LISTS → (sets'' serves'' : List ℕ) → Put sets' h placed sets'' → Put serves' h served serves''
        → Counts T list k placed served left sets serves counts list' sets'' serves'' (set counts' h used) (End used)
    counts_end y used list' sets' serves' counts' now end h l sets'' serves'' a b = record {
      kept = now.kept;
      right = λ f K laid s m.
          let (w, m') = now.looped f K laid s m in
          let e = ap (λ (d : ℕ). plain f K d p) places-left ∙ looped-end f K (T.total - suc k) p used y w (omega (arith, laid.records)) in
          let r = remember f laid.good K (bit placed 0) (bit served 0) laid.orderly p s used (sym (same f K laid) ∙ e) in (
            e,
            λ i g. elim (eq? i h) [
              | inl q ↦ subst (λ (i : ℕ). Remembered f K (bit (list_slot sets'' i) 0) (bit (list_slot serves'' i) 0) (get_or (set counts' h used) i 0)) (sym q)
                  (rw (a.here, b.here, get_or-set_same counts' h used 0 (omega (arith, now.numbers, room.numbers))) r)
              | inr n ↦ rw (a.other i n, b.other i n, get_or-set_other counts' h i used 0 n) (m' i g)
            ],
          );
      within = now.budget;
    }

    module _ (y used : ℕ) (list' sets' serves' counts' : List ℕ) (now : Going T list k placed served left sets serves counts y used list' sets' serves' counts') (more : y < T.n) where
      -- y is a record
      at-hand : (f : Frame) (K : Table) → LaidTables f K T → y < f.records
      at-hand f K laid = omega (arith, laid.records)

      may : (f : Frame) (K : Table) → LaidTables f K T → StandsFor f K p (bit placed 0) (bit served 0) → Nexts T.n T.operations T.reads T.partners T.own T.fed placed served y → So (next? f K p y)
      may f K laid s n = (next-iff f laid.good K laid.orderly p y).1 ((next_of f K T laid room.records p placed served s y more).0 n)

      pub going-skip : (Nexts T.n T.operations T.reads T.partners T.own T.fed placed served y → ⊥) → Going T list k placed served left sets serves counts (y + 1) used list' sets' serves' counts'
      going-skip n = record {
        below = omega arith;
        budget = now.budget;
        listed = now.listed;
        kept = now.kept;
        slots = now.slots;
        slots' = now.slots';
        numbers = now.numbers;
        looped = λ f K laid s m. let (w, m') = now.looped f K laid s m in (
          rw add-one (looped-skip f K (T.total - suc k) p used y w (at-hand f K laid)
              (off (λ t. n ((next_of f K T laid room.records p placed served s y more).1 ((next-iff f laid.good K laid.orderly p y).0 t))))),
          m',
        );
      }

      module _ (next : Nexts T.n T.operations T.reads T.partners T.own T.fed placed served y) where
        pub counts-spent : used ≡ left → Counts T list k placed served left sets serves counts list' sets' serves' counts' Over
        counts-spent e = record {
          kept = now.kept;
          right = λ f K laid s m. let (w, m') = now.looped f K laid s m in let o = looped-spent f K (T.total - suc k) p used y w (at-hand f K laid) (may f K laid s next) in
              (omega (arith, o, ap (λ (d : ℕ). (plain f K d p).0) places-left), m');
          within = tt;
        }

        module _ (spare : used < left) (with after list'' sets'' serves'' counts'' : List ℕ) (grown : More placed y with) (fed : Fed T.fed T.rivals with served y after) (r : Walked)
            (below : Counts T (set list' k y) (k + 1) with after (left - used - 1) sets' serves' counts' list'' sets'' serves'' counts'' r) (listed : length list'' ≡ length list')
            (slots : length sets'' ≡ length sets') (slots' : length serves'' ≡ length serves') (numbers : length counts'' ≡ length counts') where
          start : take (k + 1) (set list' k y) ≡ p ++ (y ∷ [])
          start = wrote list' k y (omega (arith, now.listed, room.places)) ∙ ap (λ (l : List ℕ). l ++ (y ∷ [])) now.kept

          is : take (k + 1) list'' ≡ p ++ (y ∷ [])
          is = below.kept ∙ start

          stands : take k list'' ≡ p
          stands = prefix p list'' k y taken is

          -- what came of the search below y
          answer : (f : Frame) (K : Table) → LaidTables f K T → StandsFor f K p (bit placed 0) (bit served 0) → Recalled f K sets serves counts
              → Brings (plain f K (T.total - suc k) (p ++ (y ∷ []))) (drop (k + 1) (take T.total list'')) (left - used - 1) r × Recalled f K sets'' serves'' counts''
          answer f K laid s m =
              let n = (next_of f K T laid room.records p placed served s y more).0 next in
              let c = child f K T laid room.records p placed served s y more n with after grown fed in
              let b = below.right f K laid (subst (λ (l : List ℕ). StandsFor f K l (bit with 0) (bit after 0)) (sym start) c) (now.looped f K laid s m).1 in
              let e : T.total - (k + 1) ≡ T.total - suc k = omega arith in (
                subst (λ (l : List ℕ). Brings (plain f K (T.total - suc k) l) (drop (k + 1) (take T.total list'')) (left - used - 1) r) start
                    (subst (λ (d : ℕ). Brings (plain f K d (take (k + 1) (set list' k y))) (drop (k + 1) (take T.total list'')) (left - used - 1) r) e b.0),
                b.1,
              )

          pub counts-order : (c : ℕ) → r ≡ Order c → Counts T list k placed served left sets serves counts list'' sets'' serves'' counts'' (Order (used + 1 + c))
          counts-order c e = record {
            kept = stands;
            right = λ f K laid s m.
                let (b, m') = answer f K laid s m in
                let a = subst (λ (r : Walked). Brings (plain f K (T.total - suc k) (p ++ (y ∷ []))) (drop (k + 1) (take T.total list'')) (left - used - 1) r) e b in
                let w = looped-found f K (T.total - suc k) p used y (now.looped f K laid s m).0 (at-hand f K laid) (may f K laid s next) c (drop (k + 1) (take T.total list'')) a in
                let z : used + suc c ≡ used + 1 + c = omega arith in (
                  ap (λ (d : ℕ). plain f K d p) places-left ∙ w
                      ∙ ap₂ (λ (n : ℕ) (l : List ℕ). (n, some l)) z (sym (tail p list'' k y taken is T.total space (omega (arith, listed, now.listed, room.places)))),
                  m',
                );
            within = let h : c ≤ left - used - 1 = subst (FitsBudget (left - used - 1)) e below.within in omega arith;
          }

          pub counts-over : r ≡ Over → Counts T list k placed served left sets serves counts list'' sets'' serves'' counts'' Over
          counts-over e = record {
            kept = stands;
            right = λ f K laid s m.
                let (b, m') = answer f K laid s m in
                let a = subst (λ (r : Walked). Brings (plain f K (T.total - suc k) (p ++ (y ∷ []))) (drop (k + 1) (take T.total list'')) (left - used - 1) r) e b in
                let w = looped-over f K (T.total - suc k) p used y (now.looped f K laid s m).0 (at-hand f K laid) (may f K laid s next) (left - used - 1) a in
                (omega (arith, w, ap (λ (d : ℕ). (plain f K d p).0) places-left), m');
            within = tt;
          }

          pub going-failed : (c : ℕ) → r ≡ End c → Going T list k placed served left sets serves counts (y + 1) (used + 1 + c) list'' sets'' serves'' counts''
          going-failed c e = record {
            below = omega arith;
            budget = let h : c ≤ left - used - 1 = subst (FitsBudget (left - used - 1)) e below.within in omega arith;
            listed = listed ∙ now.listed;
            kept = stands;
            slots = slots ∙ now.slots;
            slots' = slots' ∙ now.slots';
            numbers = numbers ∙ now.numbers;
            looped = λ f K laid s m.
                let (b, m') = answer f K laid s m in
                let a = subst (λ (r : Walked). Brings (plain f K (T.total - suc k) (p ++ (y ∷ []))) (drop (k + 1) (take T.total list'')) (left - used - 1) r) e b in
                let w = looped-failed f K (T.total - suc k) p used y (now.looped f K laid s m).0 (at-hand f K laid) (may f K laid s next) c a in
                let z : used + suc c ≡ used + 1 + c = omega arith in
                (rw (add-one y) (subst (λ (n : ℕ). Looped f K (T.total - suc k) p n (suc y)) z w), m');
          }
