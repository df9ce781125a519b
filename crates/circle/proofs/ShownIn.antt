-- The circle shown, laid into a buffer.
--
--   zeros         == a buffer of 0 is 0 everywhere, past its end too
--   shown-nothing == nothing is laid: for rows or a buffer of another length, and where there is no circle
--   closed-lowest == the lowest pair of a number with itself is the lowest start of a closed walk
--   shown-laid    == the walk that was laid is the circle shown
--   same-used     == two buffers that agree where they are used, and elsewhere too
--   shown-in-one  == no second answer fits
use mathlib.Core.Path.{◌≡◌, refl, sym, ap, ◌∙◌}
use mathlib.Core.Logic.{◌≢◌, ◌⊎◌, inl, inr}
use mathlib.Core.List.{List}
use mathlib.Core.Option.{none, some, some-injective}
use Prim.Native.Nat.{ℕ, zero, suc, ◌≤◌, ◌<◌}
use native.Mathlib.Decide.{dec_lt}
use native.Mathlib.Omega.{arith}
use lib.ListN.{length, get_or, take, replicate, length-replicate, get_or-replicate, get_or-eq_default}
use lib.Seq.{length-take-le, get_or-take, ext_get_or}
use Rattle.laws.specs.Lowest.{Lowest}
use Rattle.laws.proofs.Tests.{eq?}
use Rattle.trace.specs.Bounds.{RECORDS}
use Rattle.rows.specs.Bounds.{CELLS}
use Rattle.rows.specs.Rows.{Edges}
use Rattle.rows.proofs.Rows.{bit-bounds}
use Rattle.rules.specs.Circle.{Shown}
use Rattle.rules.specs.inner.ExactWalks.{Walk}
use Rattle.circle.specs.inner.LeastWalk.{LeastWalk, LowestBelow}
use Rattle.circle.specs.inner.BackSteps.{LaidWay}
use Rattle.circle.specs.ShownIn.{circle_of, ShownIn}
use Rattle.rules.proofs.Circle.{shown-one}
use Rattle.rules.proofs.Shown.{traced-shown}
use Rattle.circle.proofs.Lowest.{lowest-some}

pub zeros : (n i : ℕ) → ◌≡◌ {A = ℕ} (get_or (replicate n 0) i 0) 0
zeros n i = elim (dec_lt i n) [
  | yes h ↦ get_or-replicate n i 0 0 h
  | no h ↦ get_or-eq_default (replicate n 0) 0 (omega (arith, length-replicate {A = ℕ} n 0))
]

pub shown-nothing : (edges : List ℕ) (room : ℕ) (out : List ℕ) → out ≡ replicate room 0 → (length edges ≡ CELLS → room ≡ RECORDS → Shown (Edges edges) none) → ShownIn edges room 0 out
unfolding circle_of
shown-nothing edges room out wiped h = rw wiped record {
  long = length-replicate room 0;
  fits = omega arith;
  rest = λ i _. zeros room i;
  shown = h;
  other = λ _. refl;
}

module _ (E walks : List ℕ) (k s : ℕ) (p : 0 < k) (least : LeastWalk (Edges E) k walks) (low : LowestBelow RECORDS (λ x. Edges walks x x) s) where
  pub closed-lowest : (s < RECORDS) × Lowest (λ x. Walk (Edges E) k x x) (some s)
  closed-lowest =
      let (x, w) = least.closed p in
      let exact = least.exact p in
      let (b, (a, l)) = lowest-some RECORDS _ (λ y t. (bit-bounds walks y y t).0) s x low ((exact x x).1 w) in
      (b, ((exact s s).0 a, λ y v. l y ((exact y y).1 v)))

  pub shown-laid : (room : ℕ) (before out : List ℕ) → length E ≡ CELLS → room ≡ RECORDS → before ≡ replicate room 0 → LaidWay (Edges E) s k before out → ShownIn E room k out
  unfolding circle_of
  shown-laid room before out full places wiped laid = record {
    long = laid.long ∙ ap length wiped ∙ length-replicate {A = ℕ} room 0;
    fits = omega (arith, least.within);
    rest = λ i h. laid.rest i h ∙ ap (λ l. get_or l i 0) wiped ∙ zeros room i;
    shown = λ _ _. some-circle k p (traced-shown (Edges E) k s (take k out) p (least.least p) closed-lowest.1 laid.way);
    other = λ d. absurd (elim d [ inl n ↦ n full | inr n ↦ n places ]);
  }
    where
      some-circle : (k : ℕ) → 0 < k → Shown (Edges E) (some (take k out)) → Shown (Edges E) (circle_of k out)
      some-circle zero q h = absurd (omega arith)
      some-circle (suc k) q h = h

-- what is laid is settled by the circle
circle-one : (room m n : ℕ) (a b : List ℕ) → length a ≡ room → length b ≡ room → m ≤ room → n ≤ room → circle_of m a ≡ circle_of n b → (m ≡ n) × (take m a ≡ take m b)
unfolding circle_of
circle-one room zero zero a b la lb hm hn e = (refl, refl)
circle-one room zero (suc n) a b la lb hm hn e = absurd (let z : ◌≡◌ {A = ℕ} 0 1 = cc in omega arith)
circle-one room (suc m) zero a b la lb hm hn e = absurd (let z : ◌≡◌ {A = ℕ} 0 1 = cc in omega arith)
circle-one room (suc m) (suc n) a b la lb hm hn e =
    let q : take (suc m) a ≡ take (suc n) b = some-injective _ _ e in
    let l : suc m ≡ suc n = omega (arith, ap length q, length-take-le (suc m) a (omega arith), length-take-le (suc n) b (omega arith)) in
    (l, q ∙ ap (λ k. take k b) (sym l))

pub same-used : (m : ℕ) (a b : List ℕ) → length a ≡ length b → take m a ≡ take m b → ((i : ℕ) → m ≤ i → get_or a i 0 ≡ get_or b i 0) → a ≡ b
same-used m a b l q rest =
    ext_get_or 0 a b l
    (λ i h. elim (dec_lt i m) [
      | yes s ↦ sym (get_or-take m a i 0 s) ∙ ap (λ c. get_or c i 0) q ∙ get_or-take m b i 0 s
      | no s ↦ rest i (omega arith)
    ])

pub shown-in-one : (edges : List ℕ) (room m n : ℕ) (a b : List ℕ) → ShownIn edges room m a → ShownIn edges room n b → (m ≡ n) × (a ≡ b)
shown-in-one edges room m n a b p q = (both.0, same-used m a b (p.long ∙ sym q.long) both.1 (λ i h. p.rest i h ∙ sym (q.rest i (omega (arith, both.0)))))
  where
    both : (m ≡ n) × (take m a ≡ take m b)
    both = elim (eq? (length edges) CELLS) [
      | inl f ↦ elim (eq? room RECORDS) [
        | inl r ↦ circle-one room m n a b p.long q.long p.fits q.fits (shown-one (Edges edges) (circle_of m a) (circle_of n b) (p.shown f r) (q.shown f r))
        | inr d ↦ none (inr d)
      ]
      | inr d ↦ none (inl d)
    ]
      where
        none : (length edges ≢ CELLS) ⊎ (room ≢ RECORDS) → (m ≡ n) × (take m a ≡ take m b)
        none d = let z : m ≡ 0 = p.other d in (z ∙ sym (q.other d), rw z refl)
