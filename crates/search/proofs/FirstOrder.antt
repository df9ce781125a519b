-- From the search to the first valid order, and that no second answer fits.
--
--   counted-fits           == there are no more operations than records
--   looked                 == the search from nothing placed, in the first places of a list
--   first-none, first_some == the answer that there is none, and the answer that there is one
--   first-model            == under a model that does not exist there is none
--   first-kept             == the first order from the rows of a model's kept pairs is the first under the model
--   first_one, first-by-one == no second answer fits
use mathlib.Core.Path.{◌≡◌, refl, sym, ap, ap₂, ◌∙◌, subst}
use mathlib.Core.Logic.{inl, inr}
use mathlib.Core.Bool.{Bool, true, false, So, cond, false≢true}
use mathlib.Core.List.{List, [], ◌++◌}
use mathlib.Core.Option.{some, some-injective}
use Prim.Native.Nat.{ℕ, ◌+◌, ◌-◌, ◌*◌, ◌<◌, ◌≤◌}
use native.Mathlib.Decide.{dec_lt}
use native.Mathlib.Omega.{arith}
use lib.ListN.{length, get_or, take, drop, length-replicate, get_or-replicate, get_or-eq_default}
use lib.Seq.{length-take-le, get_or-take, get_or-drop, get_or-append-add, take_at, take_all, ext_get_or}
use Rattle.laws.specs.Dict.{Answer, Least}
use Rattle.laws.specs.Relation.{Table}
use Rattle.rules.specs.Frame.{Frame}
use Rattle.laws.proofs.Tests.{test}
use Rattle.laws.proofs.Dict.{answer-one}
use Rattle.laws.proofs.Sums.{sum_bound}
use Rattle.trace.specs.Bounds.{RECORDS}
use Rattle.trace.specs.Meaning.{frame_of}
use Rattle.rules.specs.Order.{Valid}
use Rattle.trace.specs.declared.Trace.{Trace}
use Rattle.trace.specs.WellFormed.{well_formed}
use Rattle.rows.specs.Bounds.{WORDS}
use Rattle.rows.specs.Empty.{empty_of}
use Rattle.rows.specs.Lent.{lent_of}
use Rattle.rows.specs.Rows.{bit}
use Rattle.rules.specs.RuleTests.{writer?}
use Rattle.pairs.specs.Kept.{modelled, kept_of}
use Rattle.pairs.specs.SourceOf.{source_of}
use Rattle.edges.specs.ForcedPairs.{answered}
use Rattle.edges.specs.KeptRows.{KeptRows}
use Rattle.edges.proofs.ForcedPairs.{answered-iff, unanswered, kept_same}
use Rattle.rules.specs.Ready.{operations}
use Rattle.pairs.proofs.ValidOrders.{well-fits}
use Rattle.search.specs.inner.Bounds.{SLOTS}
use Rattle.search.specs.inner.SearchTables.{tables}
use Rattle.search.specs.inner.TablesLaid.{Filled, reader?, Counted, Sources}
use Rattle.search.specs.inner.SearchBelow.{follows_as, Sought}
use Rattle.search.specs.inner.SearchAnswer.{Looked}
use Rattle.search.specs.FirstOrder.{found?, order_of, FirstOrderBy, FirstOrder}
use Rattle.search.specs.declared.Order.{Order}
use Rattle.rows.proofs.Sets.{empty_holds}
use Rattle.search.proofs.DeadSets.{dead-none}
use Rattle.search.proofs.Guiding.{laid}

-- every place of an empty list is 0
pub empty-rest : (i : ℕ) → ◌≡◌ {A = ℕ} (get_or (empty_of RECORDS) i 0) 0
empty-rest i = elim (dec_lt i RECORDS) [ yes h ↦ get_or-replicate RECORDS i 0 0 h | no h ↦ get_or-eq_default (empty_of RECORDS) 0 {n = i} (omega (arith, length-replicate {A = ℕ} RECORDS 0)) ]

module _ (t : Trace) (K : Table) (r : Order) where
  pub first-none : ((r.found ≡ false) × (r.len ≡ 0) × (r.operations ≡ empty_of RECORDS)) → (So (well_formed t) → (xs : List ℕ) → Valid (frame_of t) K xs → ⊥) → FirstOrderBy t K r
  first-none (e, l, o) n = record {
    fits = omega arith;
    long = rw o (length-replicate {A = ℕ} RECORDS 0);
    rest = λ i _. rw o (empty-rest i);
    first = λ s. rw e (n s);
    unfound = λ _. l;
    nothing = λ _. e;
  }

  pub first_some : So (well_formed t) → So r.found → r.len ≤ RECORDS → length r.operations ≡ RECORDS → ((i : ℕ) → r.len ≤ i → get_or r.operations i 0 ≡ 0)
      → Least (Valid (frame_of t) K) (some (take r.len r.operations)) → FirstOrderBy t K r
  first_some s e l long rest a = record {
    fits = l;
    long = long;
    rest = rest;
    first = λ _. rw e a;
    unfound = λ n. absurd (false≢true (sym n ∙ e));
    nothing = λ n. absurd (false≢true (sym n ∙ s));
  }

module _ (t : Trace) (m : ℕ) (r : Order) where
  pub first-model : modelled m ≡ false → ((r.found ≡ false) × (r.len ≡ 0) × (r.operations ≡ empty_of RECORDS)) → FirstOrder t m r
  first-model n (e, l, o) = record {
    fits = omega arith;
    long = rw o (length-replicate {A = ℕ} RECORDS 0);
    rest = λ i _. rw o (empty-rest i);
    first = λ s. absurd (false≢true (sym n ∙ ((answered-iff t m).0 s).1));
    unfound = λ _. l;
    nothing = λ _. e;
  }

  pub first-kept : So (modelled m) → (kept : List ℕ) → KeptRows t m kept → FirstOrderBy t (lent_of t kept) r → FirstOrder t m r
  first-kept k kept is d = record {
    fits = d.fits;
    long = d.long;
    rest = d.rest;
    first = λ s. subst (λ (K : Table). Least (Valid (frame_of t) K) (order_of r)) (kept_same t m kept is s) (d.first ((answered-iff t m).0 s).0);
    unfound = d.unfound;
    nothing = λ n. d.nothing (unanswered t m k n);
  }

-- there are no more operations than records
pub counted-fits : (t : Trace) → So (well_formed t) → (ops : List ℕ) (m : ℕ) → Counted (frame_of t) ops m → m ≤ RECORDS
unfolding operations frame_of
counted-fits t w ops m c = omega (arith, c.total, sum_bound t.len 1 (λ x. cond ((frame_of t).operation x) 1 0) (λ i _. few ((frame_of t).operation i)), well-fits t w)
  where
    few : (b : Bool) → cond b 1 0 ≤ 1
    few true = omega arith
    few false = omega arith

-- the search in the first m places of a list: they are lent, and the others stand
module _ (t : Trace) (w : So (well_formed t)) (held ops list : List ℕ) (m : ℕ) (before writers readers sources lent part dead : List ℕ) (r : Bool)
    (fits : m ≤ length list) (c : Counted (frame_of t) ops m) (b : Filled t.len (bit held) before) (ws : Filled t.len (writer? (frame_of t)) writers)
    (rs : Filled t.len (reader? (frame_of t)) readers) (ss : Sources (frame_of t) t.len sources) (n : ℕ) (d : n ≡ t.len) (le : lent ≡ take n sources)
    (k : ℕ) (e : k ≡ m) (s : Sought (tables (length lent) (length (take k list)) ops before writers readers lent) (take k list) 0 (empty_of WORDS) (empty_of (SLOTS * WORDS)) part dead r)
    (long : length part ≡ length (take k list)) where
  lent-long : length lent ≡ t.len
  lent-long = ap length le ∙ length-take-le n sources (omega (arith, ss.long, well-fits t w)) ∙ d

  lent-source : (L : ℕ) → L < t.len → get_or lent L 0 ≡ source_of (frame_of t) L
  lent-source L l = ap (λ (xs : List ℕ). get_or xs L 0) le ∙ get_or-take n sources L 0 (omega arith) ∙ ss.source L l

  places-long : length (take k list) ≡ m
  places-long = length-take-le k list (omega arith) ∙ e

  -- by the numbers of records and of operations
  sought : Sought (tables t.len m ops before writers readers lent) (take k list) 0 (empty_of WORDS) (empty_of (SLOTS * WORDS)) part dead r
  sought =
      subst (λ (n : ℕ). Sought (tables n m ops before writers readers lent) (take k list) 0 (empty_of WORDS) (empty_of (SLOTS * WORDS)) part dead r) lent-long
      (subst (λ (n : ℕ). Sought (tables (length lent) n ops before writers readers lent) (take k list) 0 (empty_of WORDS) (empty_of (SLOTS * WORDS)) part dead r) places-long s)

  part-long : length part ≡ m
  part-long = long ∙ places-long

  first-places : take m (part ++ drop m list) ≡ take m part
  first-places = take_at part (drop m list) m part-long ∙ sym (take_all m part (omega (arith, part-long)))

  looked-all : Looked (frame_of t) held m list (part ++ drop m list) r
  looked-all = record {
    rest = λ i h.
        let p : i ≡ length part + (i - m) = omega (arith, part-long) in
        let q : m + (i - m) ≡ i = omega arith in
        ap (λ j. get_or (part ++ drop m list) j 0) p ∙ get_or-append-add part (drop m list) (i - m) 0 ∙ get_or-drop m list (i - m) 0 ∙ ap (λ j. get_or list j 0) q;
    right = λ K g o.
        let a = (sought.right (frame_of t) K (laid t w K held g o m ops before writers readers lent c b ws rs lent-source) (record { built = tt; holds = empty_holds WORDS }) (dead-none (frame_of t) K before)).0 in
        subst (Answer (Valid (frame_of t) K) []) (sym (same r)) a;
  }
    where
      same : (r : Bool) → follows_as r 0 m (part ++ drop m list) ≡ follows_as r 0 m part
      same true = ap (λ (l : List ℕ). some (drop 0 l)) first-places
      same false = refl

  pub looked : Looked (frame_of t) held m list (part ++ drop k list) r
  looked = rw e looked-all

-- No second answer ---------------------------------------------------------------------------------------------------------------------------

-- an answer by its parts
abbrev order : Bool → ℕ → List ℕ → Order
order a b c = record { found = a; len = b; operations = c }

-- an answer where there is something to answer, and where not
record Answers (asked : Bool) (f : Frame) (K : Table) (r : Order) : Type 0 where
  fits : r.len ≤ RECORDS
  long : length r.operations ≡ RECORDS
  rest : (i : ℕ) → r.len ≤ i → get_or r.operations i 0 ≡ 0
  first : So asked → Least (Valid f K) (order_of r)
  unfound : r.found ≡ false → r.len ≡ 0
  nothing : asked ≡ false → r.found ≡ false

module _ (asked : Bool) (f : Frame) (K : Table) (r s : Order) (p : Answers asked f K r) (q : Answers asked f K s) where
  whole : r.found ≡ s.found → r.len ≡ s.len → ((i : ℕ) → i < r.len → get_or r.operations i 0 ≡ get_or s.operations i 0) → r ≡ s
  whole e l h =
      let o : r.operations ≡ s.operations =
      ext_get_or 0 r.operations s.operations (p.long ∙ sym q.long)
      (λ i _. elim (dec_lt i r.len) [ yes b ↦ h i b | no b ↦ p.rest i (omega arith) ∙ sym (q.rest i (omega arith)) ]) in
      ap (λ a. order a r.len r.operations) e ∙ ap₂ (order s.found) l o

  none_both : r.found ≡ false → s.found ≡ false → r ≡ s
  none_both e d = whole (e ∙ sym d) (p.unfound e ∙ sym (q.unfound d)) (λ i b. absurd (omega (arith, p.unfound e)))

  some-both : r.found ≡ true → s.found ≡ true → take r.len r.operations ≡ take s.len s.operations → r ≡ s
  some-both e d k =
      let l₁ = length-take-le r.len r.operations (omega (arith, p.fits, p.long)) in
      let l₂ = length-take-le s.len s.operations (omega (arith, q.fits, q.long)) in
      let l : r.len ≡ s.len = sym l₁ ∙ ap length k ∙ l₂ in
      whole (e ∙ sym d) l (λ i b. sym (get_or-take r.len r.operations i 0 b) ∙ ap (λ (xs : List ℕ). get_or xs i 0) k ∙ get_or-take s.len s.operations i 0 (omega arith))

  one_answer : r ≡ s
  one_answer = elim (test asked) [
    | inr n ↦ none_both (p.nothing n) (q.nothing n)
    | inl a ↦ go r.found s.found refl refl (answer-one (Valid f K) [] (order_of r) (order_of s) (p.first a) (q.first a))
  ]
    where
      go : (a b : Bool) → r.found ≡ a → s.found ≡ b → found? a (take r.len r.operations) ≡ found? b (take s.len s.operations) → r ≡ s
      go true true e d k = some-both e d (some-injective _ _ k)
      go true false e d k = absurd (let z : ◌≡◌ {A = ℕ} 0 1 = cc in omega arith)
      go false true e d k = absurd (let z : ◌≡◌ {A = ℕ} 0 1 = cc in omega arith)
      go false false e d k = none_both e d

pub first_one : (t : Trace) (m : ℕ) (r s : Order) → FirstOrder t m r → FirstOrder t m s → r ≡ s
first_one t m r s p q = one_answer (answered m t) (frame_of t) (kept_of m t) r s (of r p) (of s q)
  where
    of : (r : Order) → FirstOrder t m r → Answers (answered m t) (frame_of t) (kept_of m t) r
    of r p = record { fits = p.fits; long = p.long; rest = p.rest; first = p.first; unfound = p.unfound; nothing = p.nothing }

pub first-by-one : (t : Trace) (K : Table) (r s : Order) → FirstOrderBy t K r → FirstOrderBy t K s → r ≡ s
first-by-one t K r s p q = one_answer (well_formed t) (frame_of t) K r s (of r p) (of s q)
  where
    of : (r : Order) → FirstOrderBy t K r → Answers (well_formed t) (frame_of t) K r
    of r p = record { fits = p.fits; long = p.long; rest = p.rest; first = p.first; unfound = p.unfound; nothing = p.nothing }
