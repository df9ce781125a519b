-- From the search to its answer.
--
--   sets-fit          == there are no more operations than records
--   looked            == the search from nothing placed, in the first places of a list
--   counted-order, counted-end, counted-over == what is answered where it finds an order, comes to its end, or is over the limit
--   counted-refused   == and with nothing to search
use mathlib.Core.Path.{◌≡◌, refl, sym, ap, ◌∙◌, subst}
use mathlib.Core.Bool.{Bool, true, false, So, cond}
use mathlib.Core.List.{List, [], ◌++◌}
use mathlib.Core.Option.{Option, none, some}
use Prim.Native.Nat.{ℕ, ◌+◌, ◌-◌, ◌*◌, ◌<◌, ◌≤◌}
use native.Mathlib.Decide.{dec_lt}
use native.Mathlib.Omega.{arith}
use lib.Dec.{leb}
use lib.ListN.{length, get_or, take, drop, replicate, length-replicate, get_or-replicate, get_or-eq_default}
use lib.Seq.{length-take-le, get_or-drop, get_or-append-add, take_at, take_all}
use Rattle.laws.proofs.Tests.{so-le, off}
use Rattle.laws.proofs.Sums.{sum_bound}
use Rattle.trace.specs.Bounds.{RECORDS}
use Rattle.trace.specs.Meaning.{frame_of}
use Rattle.trace.specs.declared.Trace.{Trace}
use Rattle.trace.specs.WellFormed.{well_formed}
use Rattle.trace.proofs.Good.{good}
use Rattle.rows.specs.Bounds.{WORDS}
use Rattle.rows.specs.Empty.{empty_of}
use Rattle.pairs.specs.Kept.{modelled, kept_of}
use Rattle.edges.specs.ForcedPairs.{answered}
use Rattle.rules.specs.Ready.{operations}
use Rattle.pairs.proofs.ValidOrders.{well-fits}
use Rattle.verdict.proofs.LaidOut.{padded-take}
use Rattle.plain.specs.Plain.{plain}
use Rattle.plain.proofs.Models.{kept-orderly}
use Rattle.counting.specs.inner.FailedLists.{LISTS}
use Rattle.counting.specs.inner.CountedWalk.{counting_tables, Brings, FitsBudget, Counts}
use Rattle.counting.specs.inner.CountingRows.{SetsOf, Rows}
use Rattle.counting.specs.CountedAnswer.{bare_count, counted_order, counted_by, counted_of}
use Rattle.counting.specs.inner.CountedLook.{CountedLook}
use Rattle.counting.specs.declared.Walked.{Walked}
use Rattle.counting.specs.declared.Walked.TheVariants.{Order, End, Over}
use Rattle.counting.specs.declared.Counted.{Counted}
use Rattle.counting.proofs.CountingRows.{laid, stands-none, right-none}

pub sets-fit : (t : Trace) → So (well_formed t) → (ops reads served : List ℕ) (m : ℕ) → SetsOf (frame_of t) t.len ops reads served m → m ≤ RECORDS
unfolding operations frame_of
sets-fit t w ops reads served m c = omega (arith, c.total, sum_bound t.len 1 (λ x. cond ((frame_of t).operation x) 1 0) (λ i _. few ((frame_of t).operation i)), well-fits t w)
  where
    few : (b : Bool) → cond b 1 0 ≤ 1
    few true = omega arith
    few false = omega arith

-- the search in the first m places of a list: they are lent, and the others stand
module _ (t : Trace) (w : So (well_formed t)) (model : ℕ) (o : So (modelled model)) (ops reads served list : List ℕ) (m l : ℕ) (partners own fed rivals part sets serves counts : List ℕ) (r : Walked)
    (fits : m ≤ length list) (c : SetsOf (frame_of t) t.len ops reads served m) (rows : Rows (frame_of t) (kept_of model t) t.len reads served partners own fed rivals)
    (k : ℕ) (e : k ≡ m)
    (s : Counts (counting_tables t.len m ops reads partners own fed rivals) (take k list) 0 (empty_of WORDS) served l (empty_of (LISTS * WORDS)) (empty_of (LISTS * WORDS)) (empty_of LISTS) part sets serves counts r)
    (long : length part ≡ length (take k list)) where
  part-long : length part ≡ m
  part-long = long ∙ length-take-le k list (omega arith) ∙ e

  first-places : take m (part ++ drop m list) ≡ take m part
  first-places = take_at part (drop m list) m part-long ∙ sym (take_all m part (omega (arith, part-long)))

  records : (frame_of t).records ≡ t.len
  unfolding frame_of
  records = refl

  looked-all : CountedLook (frame_of t) (kept_of model t) m l list (part ++ drop m list) r
  looked-all = record {
    rest = λ i h.
        let p : i ≡ length part + (i - m) = omega (arith, part-long) in
        let q : m + (i - m) ≡ i = omega arith in
        ap (λ j. get_or (part ++ drop m list) j 0) p ∙ get_or-append-add part (drop m list) (i - m) 0 ∙ get_or-drop m list (i - m) 0 ∙ ap (λ j. get_or list j 0) q;
    brings =
        let g = good t w in
        let or = kept-orderly t w model o in
        let a = (s.right (frame_of t) (kept_of model t) (laid (frame_of t) g (kept_of model t) or t.len m ops reads served records c partners own fed rivals rows)
        (stands-none (frame_of t) g (kept_of model t) or t.len m ops reads served records c) (right-none (frame_of t) (kept_of model t) (empty_of (LISTS * WORDS)) (empty_of LISTS))).0 in
        let z : m - 0 ≡ m = omega arith in
        subst (λ (x : List ℕ). Brings (plain (frame_of t) (kept_of model t) m []) x l r) (sym first-places) (subst (λ (d : ℕ). Brings (plain (frame_of t) (kept_of model t) d []) (take m part) l r) z a);
    within = s.within;
  }

  pub looked : CountedLook (frame_of t) (kept_of model t) m l list (part ++ drop k list) r
  looked = rw e looked-all

-- every place of an empty list is 0
empty-rest : (i : ℕ) → ◌≡◌ {A = ℕ} (get_or (empty_of RECORDS) i 0) 0
empty-rest i = elim (dec_lt i RECORDS) [ yes h ↦ get_or-replicate RECORDS i 0 0 h | no h ↦ get_or-eq_default (empty_of RECORDS) 0 {n = i} (omega (arith, length-replicate {A = ℕ} RECORDS 0)) ]

pub counted-refused : (t : Trace) (m l : ℕ) → answered m t ≡ false → bare_count Over ≡ counted_of t m l
unfolding counted_of
counted-refused t m l e = sym (ap (λ (b : Bool). cond b (counted_by l (plain (frame_of t) (kept_of m t) (operations (frame_of t)) [])) (bare_count Over)) e)

module _ (t : Trace) (m l : ℕ) (a : So (answered m t)) (total : ℕ) (e : total ≡ operations (frame_of t)) where
  by : counted_of t m l ≡ counted_by l (plain (frame_of t) (kept_of m t) total [])
  unfolding counted_of
  by = ap (λ (b : Bool). cond b (counted_by l (plain (frame_of t) (kept_of m t) (operations (frame_of t)) [])) (bare_count Over)) a
      ∙ ap (λ (d : ℕ). counted_by l (plain (frame_of t) (kept_of m t) d [])) (sym e)

  inside : {n : ℕ} → n ≤ l → leb n l ≡ true
  inside {n} h = (so-le {m = n} {n = l}).1 h

  past : {n : ℕ} → l < n → leb n l ≡ false
  past {n} h = off (λ s. let g = (so-le {m = n} {n = l}).0 s in omega (arith, g, h))

  module _ (list : List ℕ) (w : Walked) (r : CountedLook (frame_of t) (kept_of m t) total l (empty_of RECORDS) list w) where
    pub counted-order : (n : ℕ) → w ≡ Order n → total ≤ RECORDS → length list ≡ RECORDS → record { walked = w; len = total; operations = list } ≡ counted_of t m l
    counted-order n q h long =
        let b = subst (Brings (plain (frame_of t) (kept_of m t) total []) (take total list) l) q r.brings in
        let i : n ≤ l = subst (FitsBudget l) q r.within in
        let xs = take total list in
        let made : ◌≡◌ {A = Counted} (record { walked = w; len = total; operations = list }) (record { walked = Order n; len = length xs; operations = xs ++ replicate (RECORDS - length xs) 0 })
        = made_of q (sym (length-take-le total list (omega (arith, long)))) (sym (padded-take total list h long (λ j g. r.rest j g ∙ empty-rest j))) in
        made ∙ sym (by ∙ ap (counted_by l) b ∙ ap (λ (b : Bool). cond b (counted_order n xs) (bare_count Over)) (inside i))
      where
        made_of : {u v : Walked} {x y : ℕ} {os ps : List ℕ} → u ≡ v → x ≡ y → os ≡ ps → ◌≡◌ {A = Counted} (record { walked = u; len = x; operations = os }) (record { walked = v; len = y; operations = ps })
        made_of p q r = λ i. record { walked = p i; len = q i; operations = r i }

    pub counted-end : (n : ℕ) → w ≡ End n → bare_count w ≡ counted_of t m l
    counted-end n q =
        let b = subst (Brings (plain (frame_of t) (kept_of m t) total []) (take total list) l) q r.brings in
        let i : n ≤ l = subst (FitsBudget l) q r.within in
        ap bare_count q ∙ sym (by ∙ ap (counted_by l) b ∙ ap (λ (b : Bool). cond b (bare_count (End n)) (bare_count Over)) (inside i))

    pub counted-over : w ≡ Over → bare_count w ≡ counted_of t m l
    counted-over q =
        let b : l < (plain (frame_of t) (kept_of m t) total []).0 = subst (Brings (plain (frame_of t) (kept_of m t) total []) (take total list) l) q r.brings in
        ap bare_count q ∙ sym (by ∙ over (plain (frame_of t) (kept_of m t) total []) b)
      where
        over : (r : ℕ × Option (List ℕ)) → l < r.0 → counted_by l r ≡ bare_count Over
        over (n, some xs) h = ap (λ (b : Bool). cond b (counted_order n xs) (bare_count Over)) (past h)
        over (n, none) h = ap (λ (b : Bool). cond b (bare_count (End n)) (bare_count Over)) (past h)
