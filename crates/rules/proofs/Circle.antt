-- Circles.
--
--   ⊑-antisym, shown-one               == one circle is shown
--   chain_run, run-chain, circle-chain == there is a circle where a chain leads from an operation to itself
--   circle-none                        == none is shown where no chain leads so
--   run_join, turn                     == runs in a row; a circle may be begun at any of its numbers
--   shown-lowest                       == the circle shown is written from its lowest number
--   shown-once                         == no number stands in it twice
--   circle-within, circle-shorten      == a circle's numbers are below n; one of more than n is not the shortest
--   shown-short                        == the circle shown has n numbers at the most
--   circle-iff                         == circles place by place
use mathlib.Core.Path.{◌≡◌, refl, ap, ◌∙◌, subst}
use mathlib.Core.Logic.{inl, inr, ◌↔◌}
use mathlib.Core.List.{List, [], ◌∷◌, ◌++◌}
use mathlib.Core.Option.{Option, none, some}
use Prim.Native.Nat.{ℕ, zero, suc, ◌≤◌, ◌<◌}
use native.Mathlib.Decide.{dec_le}
use native.Mathlib.Nat.{not-suc-le-zero}
use native.Mathlib.Omega.{arith}
use lib.ListN.{length, length-append, get_or}
use Rattle.laws.specs.Places.{count}
use Rattle.laws.specs.Relation.{Rel, Chain, one, more}
use Rattle.laws.proofs.Tests.{eq?}
use Rattle.laws.proofs.Places.{count-later}
use Rattle.laws.proofs.Counts.{cut, repeats}
use Rattle.laws.proofs.Dict.{≼-antisym}
use Rattle.rules.specs.Circle.{Run, Circle, ◌⊑◌, Shown, after}

pub ⊑-antisym : (c d : List ℕ) → c ⊑ d → d ⊑ c → c ≡ d
⊑-antisym c d (inl h) (inl k) = absurd (omega arith)
⊑-antisym c d (inl h) (inr k) = absurd (omega (arith, k.0))
⊑-antisym c d (inr h) (inl k) = absurd (omega (arith, h.0))
⊑-antisym c d (inr h) (inr k) = ≼-antisym c d h.1 k.1

pub shown-one : (E : Rel) (a b : Option (List ℕ)) → Shown E a → Shown E b → a ≡ b
shown-one E none none h k = refl
shown-one E none (some d) h k = absurd (h d k.0)
shown-one E (some c) none h k = absurd (k c h.0)
shown-one E (some c) (some d) h k = ap some (⊑-antisym c d (h.1 d k.0) (k.1 c h.0))

pub chain_run : {E : Rel} {x z : ℕ} → Chain E x z → (xs : List ℕ) × Run E x xs z
chain_run (one e) = ([], e)
chain_run (more {y = y} e c) = let r = chain_run c in (y ∷ r.0, (e, r.1))

pub run-chain : (E : Rel) (x : ℕ) (xs : List ℕ) (z : ℕ) → Run E x xs z → Chain E x z
run-chain E x [] z r = one r
run-chain E x (y ∷ ys) z r = more r.0 (run-chain E y ys z r.1)

pub circle-chain : (E : Rel) → ((c : List ℕ) × Circle E c) ↔ ((x : ℕ) × Chain E x x)
circle-chain E = (λ h. back h.0 h.1, λ h. let r = chain_run h.1 in (h.0 ∷ r.0, r.1))
  where
    back : (c : List ℕ) → Circle E c → (x : ℕ) × Chain E x x
    back [] h = absurd h
    back (x ∷ xs) h = (x, run-chain E x xs x h)

pub circle-none : (E : Rel) → Shown E none ↔ ((x : ℕ) → Chain E x x → ⊥)
circle-none E = (λ s x c. let r = (circle-chain E).1 (x, c) in s r.0 r.1, λ h d c. let r = (circle-chain E).0 (d, c) in h r.0 r.1)

pub run_join : (E : Rel) (a : ℕ) (xs : List ℕ) (b : ℕ) (ys : List ℕ) (z : ℕ) → Run E a (xs ++ b ∷ ys) z ↔ (Run E a xs b × Run E b ys z)
run_join E a [] b ys z = (λ r. (r.0, r.1), λ r. (r.0, r.1))
run_join E a (x ∷ xs) b ys z = (λ r. let s = (run_join E x xs b ys z).0 r.1 in ((r.0, s.0), s.1), λ r. (r.0.0, (run_join E x xs b ys z).1 (r.0.1, r.1)))

pub turn : (E : Rel) (x : ℕ) (xs : List ℕ) (y : ℕ) (ys : List ℕ) → Circle E (x ∷ xs ++ y ∷ ys) → Circle E (y ∷ ys ++ x ∷ xs)
turn E x xs y ys c = let r = (run_join E x xs y ys x).0 c in (run_join E y ys x xs y).1 (r.1, r.0)

pub shown-lowest : (E : Rel) (x : ℕ) (xs : List ℕ) (y : ℕ) (ys : List ℕ) → Shown E (some (x ∷ xs ++ y ∷ ys)) → x ≤ y
shown-lowest E x xs y ys h = go (h.1 (y ∷ ys ++ x ∷ xs) (turn E x xs y ys h.0))
  where
    go : (x ∷ xs ++ y ∷ ys) ⊑ (y ∷ ys ++ x ∷ xs) → x ≤ y
    go (inl l) = omega (arith, length-append xs (y ∷ ys), length-append ys (x ∷ xs), l)
    go (inr (e, inl l)) = omega arith
    go (inr (e, inr s)) = omega (arith, s.0)

-- what stands between two places of one number is a circle
inner : (E : Rel) (x : ℕ) (p m s : List ℕ) → Circle E (p ++ x ∷ (m ++ x ∷ s)) → Circle E (x ∷ m)
inner E x [] m s c = ((run_join E x m x s x).0 c).0
inner E x (a ∷ p) m s c = ((run_join E x m x s a).0 ((run_join E a p x (m ++ x ∷ s) a).0 c).1).0

-- so a circle that has a number twice is not the shortest
shorten : (E : Rel) (c : List ℕ) (x : ℕ) → Circle E c → 1 < count x c → (d : List ℕ) × Circle E d × (length d < length c)
shorten E c x h two =
    let (p, t, e, k) = cut x c (omega arith) in
    let (m, s, e', k') = cut x t (omega arith) in
    let q : c ≡ p ++ x ∷ (m ++ x ∷ s) = e ∙ ap (λ t. p ++ x ∷ t) e' in
    (x ∷ m, inner E x p m s (subst (Circle E) q h), omega (arith, ap length q, length-append p (x ∷ (m ++ x ∷ s)), length-append m (x ∷ s)))

pub shown-once : (E : Rel) (c : List ℕ) → Shown E (some c) → (x : ℕ) → count x c ≤ 1
shown-once E c h x = elim (dec_le (count x c) 1) [ yes l ↦ l | no l ↦ let r = shorten E c x h.0 (omega arith) in absurd (short r.0 r.2 (h.1 r.0 r.1)) ]
  where
    short : (d : List ℕ) → length d < length c → c ⊑ d → ⊥
    short d l (inl a) = omega arith
    short d l (inr a) = omega (arith, a.0)

module _ (E : Rel) (n : ℕ) (rows : (x y : ℕ) → E x y → (x < n) × (y < n)) where
  run-within : (a : ℕ) (xs : List ℕ) (z : ℕ) → Run E a xs z → (x : ℕ) → 0 < count x (a ∷ xs) → x < n
  unfolding count
  run-within a [] z r x h = elim (eq? x a) [ inl e ↦ rw e (rows a z r).0 | inr d ↦ absurd (omega (arith, count-later x a [] d)) ]
  run-within a (b ∷ bs) z r x h =
      elim (eq? x a) [ inl e ↦ rw e (rows a b r.0).0 | inr d ↦ run-within b bs z r.1 x (omega (arith, count-later x a (b ∷ bs) d)) ]

  pub circle-within : (c : List ℕ) → Circle E c → (x : ℕ) → 0 < count x c → x < n
  circle-within [] h x k = absurd h
  circle-within (a ∷ xs) h x k = run-within a xs a h x k

  -- a circle of more than n is not the shortest
  pub circle-shorten : (c : List ℕ) → Circle E c → n < length c → (d : List ℕ) × Circle E d × (length d < length c)
  circle-shorten c h l = let (x, two) = repeats n c (circle-within c h) l in shorten E c x h two

  pub shown-short : (c : List ℕ) → Shown E (some c) → length c ≤ n
  shown-short c h = elim (dec_le (length c) n) [ yes l ↦ l | no l ↦ let r = repeats n c (circle-within c h.0) (omega arith) in absurd (omega (arith, shown-once E c h r.0)) ]

-- a run place by place
run-iff : (E : Rel) (a : ℕ) (xs : List ℕ) (z : ℕ) → Run E a xs z ↔ ((i : ℕ) → i < suc (length xs) → E (get_or (a ∷ xs) i 0) (get_or xs i z))
run-iff E a [] z = (there, λ h. h 0 (omega arith))
  where
    there : E a z → (i : ℕ) → i < 1 → E (get_or (a ∷ []) i 0) (get_or [] i z)
    there e zero l = e
    there e (suc i) l = absurd (omega arith)
run-iff E a (b ∷ bs) z = (λ e. there e.0 ((run-iff E b bs z).0 e.1), λ h. (h 0 (omega arith), (run-iff E b bs z).1 (λ i l. h (suc i) (omega arith))))
  where
    there : E a b → ((i : ℕ) → i < suc (length bs) → E (get_or (b ∷ bs) i 0) (get_or bs i z)) → (i : ℕ) → i < suc (suc (length bs)) → E (get_or (a ∷ b ∷ bs) i 0) (get_or (b ∷ bs) i z)
    there e r zero l = e
    there e r (suc i) l = r i (omega arith)

pub circle-iff : (E : Rel) (c : List ℕ) → Circle E c ↔ ((0 < length c) × ((i : ℕ) → i < length c → E (get_or c i 0) (after c i)))
circle-iff E [] = (λ h. absurd h, λ h. absurd (not-suc-le-zero h.0))
circle-iff E (x ∷ xs) = (λ h. (omega arith, (run-iff E x xs x).0 h), λ h. (run-iff E x xs x).1 h.1)
