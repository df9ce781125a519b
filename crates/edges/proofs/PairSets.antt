-- Pairs added to rows, one after the other.
--
--   adds_none, adds-put, adds-skip  == none; one; one whose test did not pass
--   adds-if                         == one where a test passes, as rows put it
--   adds-only                       == one, by another test that says the same
--   adds-as                         == the same pairs, said otherwise
--   adds_then, adds-or              == first some and then others
--   union-none, union_more          == what a loop adds: before its first turn, and by one turn more
--   union-skip                      == a turn that adds nothing
--   swept_none, swept-more          == what a loop over some of the numbers adds: none up to its first; one, and on to the next
--   swept_all                       == past the last
use mathlib.Core.Path.{◌≡◌, refl, sym, ◌∙◌, subst}
use mathlib.Core.Logic.{◌↔◌, ◌⊎◌, inl, inr}
use mathlib.Core.Bool.{Bool, true, false, So, false≢true}
use mathlib.Core.List.{List}
use Prim.Native.Nat.{ℕ, ◌+◌, ◌<◌, ◌≤◌}
use native.Mathlib.Omega.{arith}
use lib.ListN.{length}
use Rattle.laws.specs.Relation.{Rel}
use Rattle.laws.proofs.Tests.{and-iff, or-iff, same-iff, so-eq, eq?, three}
use Rattle.trace.specs.Bounds.{RECORDS}
use Rattle.rows.specs.Bounds.{CELLS}
use Rattle.rows.specs.Rows.{bit, Edges}
use Rattle.rows.specs.Put.{put_of, put_if}
use Rattle.rows.proofs.Pair.{put-bit, put-long, put-words}
use Rattle.edges.specs.inner.PairSets.{Only, Union, Swept}
use Rattle.rows.specs.inner.AddedPairs.{Added}

pub adds_none : (a : List ℕ) (R : Rel) → ((x y : ℕ) → R x y → ⊥) → Added a R a
adds_none a R n = record { long = refl; words = λ w. w; pairs = λ x y. (inl, λ s. elim s [ inl e ↦ e | inr r ↦ absurd (n x y r) ]) }

pub adds-put : (a : List ℕ) → length a ≡ CELLS → (b : Bool) → So b → (x y : ℕ) → x < RECORDS → y < RECORDS → Added a (Only b x y) (put_of a x y)
adds-put a l b s x y hx hy = record {
  long = put-long a x y;
  words = put-words a x y;
  pairs = λ i j.
      let parts = or-iff (same-iff {a = bit a i j}) (and-iff (so-eq {m = i} {n = x}) (so-eq {m = j} {n = y})) in
      rw (put-bit a x y hx hy (omega arith) i j) (
        λ t. elim (parts.0 t) [ inl e ↦ inl e | inr q ↦ inr (s, q.0, q.1) ],
        λ t. parts.1 (elim t [ inl e ↦ inl e | inr q ↦ inr (q.1, q.2) ]),
      );
}

pub adds-skip : (a : List ℕ) (b : Bool) → b ≡ false → (x y : ℕ) → Added a (Only b x y) a
adds-skip a b e x y = adds_none a (Only b x y) (λ i j o. false≢true (sym e ∙ o.0))

pub adds-if : {a c : List ℕ} (b : Bool) (x y : ℕ) → length a ≡ CELLS → (So b → (x < RECORDS) × (y < RECORDS)) → c ≡ put_if a b x y → Added a (Only b x y) c
unfolding put_if
adds-if {a} true x y l h e = rw e (adds-put a l true refl x y (h refl).0 (h refl).1)
adds-if {a} false x y l h e = rw e (adds-skip a false refl x y)

pub adds-only : {a c : List ℕ} {x y : ℕ} (b d : Bool) → b ≡ d → Added a (Only b x y) c → Added a (Only d x y) c
adds-only {a} {c} {x} {y} b d e p = subst (λ (b : Bool). Added a (Only b x y) c) e p

module _ {a : List ℕ} {R : Rel} where
  pub adds-as : {b : List ℕ} (Q : Rel) → Added a R b → ((x y : ℕ) → R x y ↔ Q x y) → Added a Q b
  adds-as Q p same = record {
    long = p.long;
    words = p.words;
    pairs = λ x y. (
      λ t. elim ((p.pairs x y).0 t) [ inl e ↦ inl e | inr r ↦ inr ((same x y).0 r) ],
      λ s. (p.pairs x y).1 (elim s [ inl e ↦ inl e | inr q ↦ inr ((same x y).1 q) ]),
    );
  }

  pub adds_then : {b c : List ℕ} {Q : Rel} (T : Rel) → Added a R b → Added b Q c → ((x y : ℕ) → (R x y ⊎ Q x y) ↔ T x y) → Added a T c
  adds_then {b} {c} {Q} T p q same = record {
    long = q.long ∙ p.long;
    words = λ w. q.words (p.words w);
    pairs = λ x y. (there x y, back x y);
  }
    where
      there : (x y : ℕ) → So (bit c x y) → Edges a x y ⊎ T x y
      there x y t = elim ((q.pairs x y).0 t) [
        | inl u ↦ elim ((p.pairs x y).0 u) [ inl e ↦ inl e | inr r ↦ inr ((same x y).0 (inl r)) ]
        | inr r ↦ inr ((same x y).0 (inr r))
      ]

      back : (x y : ℕ) → Edges a x y ⊎ T x y → So (bit c x y)
      back x y (inl e) = (q.pairs x y).1 (inl ((p.pairs x y).1 (inl e)))
      back x y (inr r) = elim ((same x y).1 r) [ inl s ↦ (q.pairs x y).1 (inl ((p.pairs x y).1 (inr s))) | inr s ↦ (q.pairs x y).1 (inr s) ]

pub adds-or : {a b c : List ℕ} {R Q : Rel} → Added a R b → Added b Q c → Added a (λ x y. R x y ⊎ Q x y) c
adds-or p q = adds_then _ p q (λ x y. (λ s. s, λ s. s))

module _ (R : ℕ → Rel) where
  pub union-none : (a : List ℕ) → Added a (Union 0 R) a
  unfolding Union
  union-none a = adds_none a (Union 0 R) (λ x y u. omega (arith, u.1))

  pub union_more : {a b c : List ℕ} (n : ℕ) → Added a (Union n R) b → Added b (R n) c → Added a (Union (n + 1) R) c
  unfolding Union
  union_more n p q = adds_then (Union (n + 1) R) p q (λ x y. (there x y, back x y))
    where
      there : (x y : ℕ) → Union n R x y ⊎ R n x y → Union (n + 1) R x y
      there x y (inl u) = (u.0, omega (arith, u.1), u.2)
      there x y (inr r) = (n, omega arith, r)

      back : (x y : ℕ) → Union (n + 1) R x y → Union n R x y ⊎ R n x y
      back x y u = elim (eq? u.0 n) [ inl e ↦ inr (rw e at u.2) | inr d ↦ inl (u.0, omega (arith, u.1), u.2) ]

  pub union-skip : {a b : List ℕ} (n : ℕ) → Added a (Union n R) b → ((x y : ℕ) → R n x y → ⊥) → Added a (Union (n + 1) R) b
  union-skip {b = b} n p none = union_more n p (adds_none b (R n) none)

module _ (n : ℕ) (R : ℕ → Rel) where
  pub swept_none : (x : ℕ) → ((z : ℕ) → z < x → (i j : ℕ) → R z i j → ⊥) → (i j : ℕ) → Swept n x R i j → ⊥
  unfolding Union
  swept_none x none i j u = none u.0 u.2.0 i j u.2.1

  -- between x and the next there is none
  pub swept-more : (x x' : ℕ) → x < n → x < x' → ((z : ℕ) → x < z → z < x' → (i j : ℕ) → R z i j → ⊥) → (i j : ℕ) → (Swept n x R i j ⊎ R x i j) ↔ Swept n x' R i j
  unfolding Union
  swept-more x x' h l none i j = (there, back)
    where
      there : Swept n x R i j ⊎ R x i j → Swept n x' R i j
      there (inl u) = (u.0, u.1, (omega (arith, u.2.0), u.2.1))
      there (inr r) = (x, h, (l, r))

      back : Swept n x' R i j → Swept n x R i j ⊎ R x i j
      back u = elim (three u.0 x) [
        | inl m ↦ inl (u.0, u.1, (m, u.2.1))
        | inr m ↦ elim m [ inl e ↦ inr (rw e at u.2.1) | inr k ↦ absurd (none u.0 k u.2.0 i j u.2.1) ]
      ]

  pub swept_all : (x : ℕ) → n ≤ x → (i j : ℕ) → Swept n x R i j ↔ Union n R i j
  unfolding Union
  swept_all x h i j = (λ u. (u.0, u.1, u.2.1), λ u. (u.0, u.1, (omega (arith, u.1), u.2)))
