-- What the loops of the judge learn, a turn at a time.
--
--   operations-more                == one record more, where operations are counted
--   counted                        == as many places pass the test of a number as it stands in
--   none-earlier, not-fenced       == x makes no kept pair with an earlier record; no fence stands between x and itself
--   kept_at                        == the table of kept pairs, as a loop reads it off two records
--   out-here, out-idle, out-right  == a pair is out of turn; it is not kept; it is in turn
--   wrong-here, wrong-idle, wrong-right == a value is wrong; the record does not read; the value is right
use mathlib.Core.Path.{◌≡◌, refl, sym, ap, ap₂, ◌∙◌}
use mathlib.Core.Logic.{◌≢◌}
use mathlib.Core.Bool.{Bool, true, false, not, cond, So, ◌&&◌}
use mathlib.Core.List.{List, [], ◌∷◌}
use Prim.Native.Nat.{ℕ, suc, ◌+◌, ◌<◌, ◌≤◌}
use native.Mathlib.Numerals.{add-one}
use native.Mathlib.Omega.{arith}
use borrow.Author.Tests.{lt-ltb, le-ltb, eq-eqb, ne_eqb}
use lib.Dec.{eqb, ltb}
use lib.ListN.{length, get_or}
use Rattle.laws.specs.Places.{count}
use Rattle.laws.specs.Relation.{Table}
use Rattle.laws.specs.Sums.{sum}
use Rattle.laws.proofs.Tests.{off}
use Rattle.std.specs.Prelude.{filter, count_by}
use Rattle.std.proofs.lemmas.List.Sums.{length-filter}
use Rattle.laws.proofs.LowestLoops.{NoneBelow}
use Rattle.rules.specs.Frame.{Frame}
use Rattle.trace.specs.Trace.{at}
use Rattle.trace.specs.Meaning.{frame_of}
use Rattle.trace.specs.declared.Op.{Op}
use Rattle.trace.specs.declared.Trace.{Trace}
use Rattle.pairs.specs.Kept.{kept_pair, fenced, kept_of}
use Rattle.pairs.proofs.KeptPairs.{kept-of-iff, kept-parts, earlier-iff, fenced-iff}
use Rattle.rules.specs.Seen.{seen}
use Rattle.judge.specs.inner.Positions.{out_at}
use Rattle.judge.specs.Judged.{wrong?}

-- a test that passes and one that is turned round
both : (a b : Bool) → So a → b ≡ false → So (a && not b)
both a b p q = ap₂ (λ (c d : Bool). c && not d) p q

first_off : (a b : Bool) → a ≡ false → (a && not b) ≡ false
first_off a b p = ap (λ (c : Bool). c && not b) p

second-off : (a b : Bool) → So b → (a && not b) ≡ false
second-off a b q = ap (λ (d : Bool). a && not d) q ∙ never a
  where
    never : (a : Bool) → (a && false) ≡ false
    never true = refl
    never false = refl

pub operations-more : (t : Trace) (x : ℕ) (b : Bool) → (frame_of t).operation x ≡ b
    → sum (x + 1) (λ y. cond ((frame_of t).operation y) 1 0) ≡ cond b 1 0 + sum x (λ y. cond ((frame_of t).operation y) 1 0)
unfolding sum
operations-more t x b e = rw add-one (ap (λ (o : Bool). cond o 1 0 + sum x (λ y. cond ((frame_of t).operation y) 1 0)) e)

-- the length of what passes a test, a place at a time
one-more : (b : Bool) (y : ℕ) (ys : List ℕ) → length (cond b (y ∷ ys) ys) ≡ cond b (suc (length ys)) (length ys)
one-more true y ys = refl
one-more false y ys = refl

passed : (x : ℕ) (xs : List ℕ) → length (filter (λ y. eqb x y) xs) ≡ count x xs
unfolding count
passed x [] = refl
passed x (y ∷ ys) = one-more (eqb x y) y (filter (λ z. eqb x z) ys) ∙ ap (λ (n : ℕ). cond (eqb x y) (suc n) n) (passed x ys)

pub counted : (x : ℕ) (xs : List ℕ) → count_by (λ y. eqb x y) xs ≡ count x xs
counted x xs = sym (length-filter (λ y. eqb x y) xs) ∙ passed x xs

pub none-earlier : (m : ℕ) (t : Trace) (s : List ℕ) (x : ℕ) → NoneBelow (out_at (kept_of m t) s x) x
unfolding out_at
none-earlier m t s x k h = first_off _ (ltb (get_or s x 0) (get_or s k 0)) (off (λ u. let e = ((earlier-iff t x k).0 ((kept-of-iff t x k m).0 u).0.0.0.0).0 in omega arith))

pub not-fenced : (t : Trace) (x : ℕ) → false ≡ fenced t x x
not-fenced t x = sym (off (λ u. let (i, l, q) = (fenced-iff t x x).0 u in omega (arith, l, q.0.1)))

-- what is known of the two records comes from calls: their results stand for the tests
pub kept_at : (m : ℕ) (t : Trace) (x y : ℕ) {a b : Op} {passed kept : Bool} → a ≡ at t x → b ≡ at t y → passed ≡ fenced t x y
    → kept ≡ kept_pair m a b (ltb x y && ltb y t.len) passed → kept_of m t x y ≡ kept
kept_at m t x y p q r e = sym (e ∙ rw (p, q, r) (sym (kept-parts t x y m)))

module _ (K : Table) (s : List ℕ) (x y : ℕ) where
  pub out-here : So (K x y) → get_or s y 0 ≤ get_or s x 0 → So (out_at K s x y)
  unfolding out_at
  out-here k h = both _ _ k (le-ltb (get_or s x 0) (get_or s y 0) h)

  pub out-idle : K x y ≡ false → out_at K s x y ≡ false
  unfolding out_at
  out-idle k = first_off _ (ltb (get_or s x 0) (get_or s y 0)) k

  pub out-right : get_or s x 0 < get_or s y 0 → out_at K s x y ≡ false
  unfolding out_at
  out-right h = second-off (K x y) _ (lt-ltb (get_or s x 0) (get_or s y 0) h)

module _ (f : Frame) (xs : List ℕ) (L : ℕ) where
  pub wrong-here : So (f.reads L) → f.read L ≢ seen f xs L → So (wrong? f xs L)
  unfolding wrong?
  wrong-here r d = both _ _ r (ne_eqb (f.read L) (seen f xs L) d)

  pub wrong-idle : f.reads L ≡ false → wrong? f xs L ≡ false
  unfolding wrong?
  wrong-idle r = first_off _ (eqb (f.read L) (seen f xs L)) r

  pub wrong-right : f.read L ≡ seen f xs L → wrong? f xs L ≡ false
  unfolding wrong?
  wrong-right e = second-off (f.reads L) _ (eq-eqb (f.read L) (seen f xs L) e)
