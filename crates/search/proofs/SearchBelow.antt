-- The steps of the search below the first k places of a list.
--
--   unfound      == an answer that there is none, told by what it cost
--   sought-as    == the same by another name of how many operations there are
--   sought-full  == all places are taken: the list is its own answer
--   sought-dead  == the set is dead
--   trying-none, trying-skip, trying-next == the loop: before the first number; past those that are not ready; one that failed
--   found_below  == the answer below one that was ready is the answer
--   stopped, all-tried == where the loop stops, and at its end, there is none
use mathlib.Core.Path.{◌≡◌, refl, sym, ap, ap₂, ◌∙◌, subst}
use mathlib.Core.Logic.{inl, inr}
use mathlib.Core.Bool.{Bool, true, false, So, false≢true}
use mathlib.Core.List.{List, [], ◌∷◌, ◌++◌, append_assoc}
use mathlib.Core.Option.{none, some}
use Prim.Native.Nat.{ℕ, ◌+◌, ◌<◌, ◌≤◌}
use native.Mathlib.Numerals.{add-one}
use native.Mathlib.Decide.{dec_lt}
use native.Mathlib.Omega.{arith}
use lib.Dec.{eqb}
use lib.ListN.{length, get_or, set, take, drop}
use lib.Seq.{length-take-le, take-suc-set, take-take, take_at, drop-cons, get_or-take, get_or_at, drop-length}
use Rattle.laws.specs.Relation.{Table}
use Rattle.laws.specs.Dict.{Answer}
use Rattle.laws.specs.inner.TryingInTurn.{Tried}
use Rattle.laws.proofs.Search.{tried-none, tried-next, tried-some, tried-all, full-some}
use Rattle.laws.proofs.Steps.{steps-join}
use Rattle.laws.proofs.Tests.{off, so-eq}
use Rattle.rules.specs.Frame.{Frame}
use Rattle.rules.specs.Order.{Valid}
use Rattle.rows.specs.Bounds.{WORDS}
use Rattle.rows.specs.Rows.{bit}
use Rattle.rows.specs.Empty.{empty_of}
use Rattle.rows.proofs.Whole.{empty-bit, empty-long}
use Rattle.rules.specs.Ready.{operations, Ready}
use Rattle.rules.specs.inner.EarlyStop.{Failed}
use Rattle.rules.proofs.Ready.{valid-sized, unready-none, disciplined-full, full-valid}
use Rattle.rules.proofs.EarlyStop.{failed-none, failed-more, stop-none}
use Rattle.search.specs.inner.SearchTables.{Tables, tables, Led, Laid}
use Rattle.rows.specs.inner.Sets.{More}
use Rattle.search.specs.inner.Candidates.{Readied, Stops}
use Rattle.search.specs.inner.DeadSets.{Recalls, Noted, BuiltSet, Dead}
use Rattle.search.specs.inner.SearchBelow.{follows_as, Room, Sought, Trying}
use Rattle.rows.proofs.Sets.{more-holds}
use Rattle.search.proofs.Candidates.{ready-iff, stop-of}
use Rattle.search.proofs.Refutation.{refuted-none}
use Rattle.search.proofs.DeadSets.{dead-has, dead-noted}

-- what the search cost is never 0 where it failed
pub unfound : {T : Tables} {list : List ℕ} {k : ℕ} {placed dead list' dead' : List ℕ} (r : ℕ) → 0 < r → Sought T list k placed dead list' dead' false → Sought T list k placed dead list' dead' (eqb r 0)
unfound {T} {list} {k} {placed} {dead} {list'} {dead'} r h s = subst (λ (b : Bool). Sought T list k placed dead list' dead' b) (sym (off {b = eqb r 0} (λ t. let e : r ≡ 0 = so-eq.0 t in omega arith))) s

-- by another name of how many operations there are
pub sought-as : (n m m' : ℕ) (ops before writers readers sources : List ℕ) → m ≡ m' → {list : List ℕ} {k : ℕ} {placed dead list' dead' : List ℕ} {r : Bool}
    → Sought (tables n m ops before writers readers sources) list k placed dead list' dead' r → Sought (tables n m' ops before writers readers sources) list k placed dead list' dead' r
sought-as n m m' ops before writers readers sources e {list} {k} {placed} {dead} {list'} {dead'} {r} s =
    subst (λ (m : ℕ). Sought (tables n m ops before writers readers sources) list k placed dead list' dead' r) e s

-- numbers with no answer are tried, and so are fewer numbers
tried-past : (P : List ℕ → Type 0) (p : List ℕ) (y z : ℕ) → Tried P p y → ((x : ℕ) → y ≤ x → x < z → Answer P (p ++ (x ∷ [])) none) → Tried P p z
unfolding Tried
tried-past P p y z t n x s l v = elim (dec_lt x y) [
  | yes b ↦ t x s b v
  | no b ↦ n x (omega arith) l s (subst P (sym (append_assoc p (x ∷ []) s)) v)
]

tried-less : (P : List ℕ → Type 0) (p : List ℕ) (y z : ℕ) → z ≤ y → Tried P p y → Tried P p z
unfolding Tried
tried-less P p y z h t x s l v = t x s (omega arith) v

-- one place more is taken
pub wrote : (o : List ℕ) (d x : ℕ) → d < length o → take (d + 1) (set o d x) ≡ take d o ++ (x ∷ [])
wrote o d x h = rw (add-one d) (take-suc-set o d x h)

-- the list e begins with p and then x
module _ (p e : List ℕ) (d x : ℕ) (lp : length p ≡ d) (is : take (d + 1) e ≡ p ++ (x ∷ [])) where
  prefix : take d e ≡ p
  prefix = sym (take-take d (d + 1) e (omega arith)) ∙ ap (take d) is ∙ take_at p (x ∷ []) d lp

  head : get_or e d 0 ≡ x
  head = sym (get_or-take (d + 1) e d 0 (omega arith)) ∙ ap (λ (l : List ℕ). get_or l d 0) is ∙ get_or_at p x [] 0 d lp

  tail : (m : ℕ) → d < m → m ≤ length e → drop d (take m e) ≡ x ∷ drop (d + 1) (take m e)
  tail m h l =
      let k = length-take-le m e l in
      drop-cons (take m e) d 0 (omega arith)
      ∙ ap₂ (λ (y i : ℕ). y ∷ drop i (take m e)) (get_or-take m e d 0 h ∙ head) (sym (add-one d))

module _ (T : Tables) (list : List ℕ) (k : ℕ) (placed dead : List ℕ) (room : Room T k list placed dead) where
  -- the places that are taken
  abbrev p : List ℕ
  p = take k list

  taken : length p ≡ k
  taken = length-take-le k list (omega (arith, room.places, room.left))

  pub sought-full : k ≡ T.total → Sought T list k placed dead list dead true
  sought-full e = record {
    kept = refl;
    right = λ f K laid b d.
        let nothing : drop k (take T.total list) ≡ [] =
        rw (sym e) (ap (λ (m : ℕ). drop m (take k list)) (sym taken) ∙ drop-length (take k list)) in
        let v = full-valid f laid.good K (Led T.before) laid.guide laid.sourced p
        (disciplined-full f laid.good (Led T.before) p b.built (taken ∙ e ∙ sym laid.total)) b.built in
        (subst (λ (s : List ℕ). Answer (Valid f K) p (some s)) (sym nothing) (full-some (Valid f K) p v), d);
  }

  pub sought-dead : 0 < k → Recalls dead placed → Sought T list k placed dead list dead false
  sought-dead h s = record { kept = refl; right = λ f K laid b d. (dead-has f K T laid p placed dead b d (omega (arith, taken)) s, d) }

  pub trying-none : Trying T list k placed dead 0 (empty_of WORDS) list dead
  trying-none = record {
    listed = refl;
    kept = refl;
    memory = refl;
    set = empty-long WORDS;
    tried = λ f K laid b d. (tried-none (Valid f K) p, failed-none f K (Led T.before) p _ (λ z t. false≢true (sym (empty-bit WORDS 0 z) ∙ t)), d);
  }

  module _ (y : ℕ) (failed list' dead' : List ℕ) (now : Trying T list k placed dead y failed list' dead') where
    -- what is not ready is passed
    pub trying-skip : (z : ℕ) → ((x : ℕ) → y ≤ x → x < z → Readied T.n T.operations T.before T.readers T.sources placed x → ⊥) → Trying T list k placed dead z failed list' dead'
    trying-skip z n = record {
      listed = now.listed;
      kept = now.kept;
      memory = now.memory;
      set = now.set;
      tried = λ f K laid b d.
          let (t, h, m) = now.tried f K laid b d in
          (tried-past (Valid f K) p y z t (λ x a l. unready-none f laid.good K (Led T.before) laid.guide p x (λ r. n x a l ((ready-iff f K T laid room.records placed p b.holds x).1 r))), h, m);
    }

    module _ (ready : Readied T.n T.operations T.before T.readers T.sources placed y) (space : k < T.total) (next list'' dead'' : List ℕ) (grown : More placed y next) (r : Bool)
        (below : Sought T (set list' k y) (k + 1) next dead' list'' dead'' r) (listed : length list'' ≡ length list') (kept-long : length dead'' ≡ length dead') where
      places : k < length list'
      places = omega (arith, now.listed, room.places)

      start : take (k + 1) (set list' k y) ≡ p ++ (y ∷ [])
      start = wrote list' k y places ∙ ap (λ (l : List ℕ). l ++ (y ∷ [])) now.kept

      is : take (k + 1) list'' ≡ p ++ (y ∷ [])
      is = below.kept ∙ start

      stands : take k list'' ≡ p
      stands = prefix p list'' k y taken is

      module _ (f : Frame) (K : Table) (laid : Laid f K T) (b : BuiltSet f T.before p placed) (d : Dead f K T.before dead) where
        -- y was ready, and what is below it is answered
        may : Ready f (Led T.before) p y
        may = (ready-iff f K T laid room.records placed p b.holds y).0 ready

        child : BuiltSet f T.before (p ++ (y ∷ [])) next
        child = record {
          built = steps-join (Ready f (Led T.before)) [] p (y ∷ []) b.built (may, tt);
          holds = more-holds placed p y next b.holds grown;
        }

        answer : Answer (Valid f K) (p ++ (y ∷ [])) (follows_as r (k + 1) T.total list'') × Dead f K T.before dead''
        answer =
            let g = below.right f K laid (subst (λ (l : List ℕ). BuiltSet f T.before l next) (sym start) child) (now.tried f K laid b d).2 in
            (subst (λ (l : List ℕ). Answer (Valid f K) l (follows_as r (k + 1) T.total list'')) start g.0, g.1)

        failed-now : r ≡ false → (failed' : List ℕ) → More failed y failed' → Failed f K (Led T.before) p (λ z. So (bit failed' 0 z))
        failed-now e failed' w =
            failed-more f K (Led T.before) p (λ z. So (bit failed 0 z)) (λ z. So (bit failed' 0 z)) y (now.tried f K laid b d).1 may
            (subst (λ (r : Bool). Answer (Valid f K) (p ++ (y ∷ [])) (follows_as r (k + 1) T.total list'')) e answer.0)
            (λ z t. elim ((w.has z).0 t) [ inl u ↦ inr u | inr u ↦ inl u ])

      pub found_below : r ≡ true → Sought T list k placed dead list'' dead'' true
      found_below e = record {
        kept = stands;
        right = λ f K laid b d.
            let (a, m) = answer f K laid b d in
            let z = valid-sized f laid.good K in
            let s = tried-some (Valid f K) p f.records (operations f) z y (drop (k + 1) (take T.total list'')) (now.tried f K laid b d).0
            (subst (λ (r : Bool). Answer (Valid f K) (p ++ (y ∷ [])) (follows_as r (k + 1) T.total list'')) e a) in
            (subst (λ (l : List ℕ). Answer (Valid f K) p (some l)) (sym (tail p list'' k y taken is T.total space (omega (arith, listed, now.listed, room.places)))) s, m);
      }

      module _ (e : r ≡ false) (failed' : List ℕ) (w : More failed y failed') where
        pub trying-next : Trying T list k placed dead (y + 1) failed' list'' dead''
        trying-next = record {
          listed = listed ∙ now.listed;
          kept = stands;
          memory = kept-long ∙ now.memory;
          set = w.long;
          tried = λ f K laid b d.
              let (a, m) = answer f K laid b d in
              let a' = subst (λ (r : Bool). Answer (Valid f K) (p ++ (y ∷ [])) (follows_as r (k + 1) T.total list'')) e a in
              (rw add-one (tried-next (Valid f K) p y (now.tried f K laid b d).0 a'), failed-now f K laid b d e failed' w, m);
        }

        -- enough has failed, or the set is refuted
        stop : (f : Frame) (K : Table) → Laid f K T → BuiltSet f T.before p placed → Dead f K T.before dead → Stops T.n T.before T.writers T.readers T.sources placed failed' y → Answer (Valid f K) p none
        stop f K laid b d (inl s) =
            stop-none f laid.good K (Led T.before) laid.guide laid.sourced p _ (failed-now f K laid b d e failed' w)
            (stop-of f K T laid room.records placed p b.holds failed' y ((w.has y).1 (inr refl)) s)
        stop f K laid b d (inr r) = refuted-none f K T laid placed p b.holds r

        pub stopped : Stops T.n T.before T.writers T.readers T.sources placed failed' y → (dead''' : List ℕ) → Noted dead'' placed dead''' → Sought T list k placed dead list'' dead''' false
        stopped s dead''' n = record {
          kept = stands;
          right = λ f K laid b d.
              let a = stop f K laid b d s in
              (a, dead-noted f K T laid p placed dead'' b (answer f K laid b d).1 dead''' a n);
        }

  pub all-tried : (y : ℕ) (failed list' dead' : List ℕ) → Trying T list k placed dead y failed list' dead' → T.n ≤ y → k < T.total → (dead'' : List ℕ) → Noted dead' placed dead''
      → Sought T list k placed dead list' dead'' false
  all-tried y failed list' dead' now end space dead'' n = record {
    kept = now.kept;
    right = λ f K laid b d.
        let (t, h, m) = now.tried f K laid b d in
        let a = tried-all (Valid f K) p f.records (operations f) (valid-sized f laid.good K) (omega (arith, taken, laid.total)) (tried-less (Valid f K) p y f.records (omega (arith, laid.records)) t) in
        (a, dead-noted f K T laid p placed dead' b m dead'' a n);
  }
