-- A word is too large exactly where it is above the largest that its digits make.
--
--   Within ws us   == as many words, none above the one at its place
--   within-iff     == the same by places
--   pack-within    == packed digits are within the largest
--   within-room    == words within the largest have room
--   tops-back      == words as many as a program has, none too large, come back from the reads that they stand for
--   tops-pack      == the words of any reads are so
use mathlib.Core.Path.{◌≡◌, refl, sym, ap, subst}
use mathlib.Core.Bool.{Bool, true, false, cond, So, ◌&&◌}
use mathlib.Core.List.{List, [], ◌∷◌, ◌++◌}
use Prim.Native.Nat.{ℕ, zero, suc, ◌-◌, ◌*◌, ◌/◌, ◌<◌, ◌≤◌}
use native.Mathlib.Nat.{div-lt_iff_lt-mul, mul_comm, mul-suc, mul-le-mul_left}
use native.Mathlib.Omega.{arith}
use lib.Dec.{leb}
use borrow.Author.Tests.{ltb-false}
use lib.ListN.{length, get_or, take, drop}
use Rattle.laws.proofs.Tests.{and-iff, same-iff, so-eq, so-lt, off}
use Rattle.trace.specs.Bounds.{THREADS}
use Rattle.trace.specs.FormFacts.{Form}
use Rattle.trace.specs.declared.Trace.{Trace}
use Rattle.signature.specs.DigitWords.{LIMIT, onto, rest, next_words, pack_from, packed}
use Rattle.signature.specs.Reads.{each, range_of, digit_of, values, readers, AllListed}
use Rattle.signature.specs.Signature.{thread_words, words_up_to, signature, tops, too_large}
use Rattle.signature.specs.Unpack.{word_count, read_of}
use Rattle.signature.proofs.DigitWords.{Digits, none, one, Ranges, spent, room_from, room}
use Rattle.signature.proofs.Signature.{Chosen, digits, thread-long, top-chosen}
use Rattle.signature.proofs.Unpack.{room_up_to, pack-back}

abbrev pub Within : List ℕ → List ℕ → Type 0
Within [] [] = Unit {0}
Within [] (u ∷ us) = ⊥
Within (w ∷ ws) [] = ⊥
Within (w ∷ ws) (u ∷ us) = (w ≤ u) × Within ws us

pub within-long : (ws us : List ℕ) → Within ws us → length ws ≡ length us
within-long [] [] h = refl
within-long [] (u ∷ us) h = absurd h
within-long (w ∷ ws) [] h = absurd h
within-long (w ∷ ws) (u ∷ us) h = ap suc (within-long ws us h.1)

pub within-at : (ws us : List ℕ) → Within ws us → (k : ℕ) → get_or ws k 0 ≤ get_or us k 0
within-at [] [] h k = omega arith
within-at [] (u ∷ us) h k = absurd h
within-at (w ∷ ws) [] h k = absurd h
within-at (w ∷ ws) (u ∷ us) h zero = h.0
within-at (w ∷ ws) (u ∷ us) h (suc k) = within-at ws us h.1 k

pub at-within : (ws us : List ℕ) → length ws ≡ length us → ((k : ℕ) → k < length ws → get_or ws k 0 ≤ get_or us k 0) → Within ws us
at-within [] [] l h = tt
at-within [] (u ∷ us) l h = absurd (omega (arith, l))
at-within (w ∷ ws) [] l h = absurd (omega (arith, l))
at-within (w ∷ ws) (u ∷ us) l h = (h 0 (omega arith), at-within ws us (omega (arith, l)) (λ k b. h (suc k) (omega arith)))

within-append : (a b c d : List ℕ) → Within a b → Within c d → Within (a ++ c) (b ++ d)
within-append [] [] c d h k = k
within-append [] (y ∷ b) c d h k = absurd h
within-append (x ∷ a) [] c d h k = absurd h
within-append (x ∷ a) (y ∷ b) c d h k = (h.0, within-append a b c d h.1 k)

within-take : (a ws us : List ℕ) → Within ws (a ++ us) → Within (take (length a) ws) a × Within (drop (length a) ws) us
within-take [] ws us h = (tt, h)
within-take (x ∷ a) [] us h = absurd h
within-take (x ∷ a) (w ∷ ws) us h = let r = within-take a ws us h.1 in ((h.0, r.0), r.1)

-- the last digit of each range
abbrev lasts : List ℕ → List ℕ
lasts [] = []
lasts (r ∷ rs) = (r - 1) ∷ lasts rs

lasts-each : (g : ℕ → ℕ) (xs : List ℕ) → each (λ x. g x - 1) xs ≡ lasts (each g xs)
unfolding each
lasts-each g [] = refl
lasts-each g (x ∷ xs) = ap (λ l. (g x - 1) ∷ l) (lasts-each g xs)

onto-within : (d r : ℕ) (ws us : List ℕ) → d < r → Within ws us → Within (onto d r ws) (onto (r - 1) r us)
onto-within d r [] [] h k = tt
onto-within d r [] (u ∷ us) h k = absurd k
onto-within d r (w ∷ ws) [] h k = absurd k
onto-within d r (w ∷ ws) (u ∷ us) h k = (omega (arith, mul-le-mul_left r k.0), k.1)

pub pack-within : {rs ds : List ℕ} → Digits rs ds → (p : ℕ) → Within (pack_from p rs ds) (pack_from p rs (lasts rs))
unfolding pack_from
pack-within none p = (omega arith, tt)
pack-within (one {r} {d} {rs} {ds} h g) p = go (leb (p * r) LIMIT) (pack-within g (p * r)) (pack-within g r)
  where
    go : (b : Bool) → Within (pack_from (p * r) rs ds) (pack_from (p * r) rs (lasts rs)) → Within (pack_from r rs ds) (pack_from r rs (lasts rs))
        → Within (cond b (onto d r (pack_from (p * r) rs ds)) (0 ∷ onto d r (pack_from r rs ds))) (cond b (onto (r - 1) r (pack_from (p * r) rs (lasts rs))) (0 ∷ onto (r - 1) r (pack_from r rs (lasts rs))))
    go true k l = onto-within d r (pack_from (p * r) rs ds) (pack_from (p * r) rs (lasts rs)) h k
    go false k l = (omega arith, onto-within d r (pack_from r rs ds) (pack_from r rs (lasts rs)) h l)

packed-within : {rs ds : List ℕ} → Digits rs ds → Within (packed rs ds) (packed rs (lasts rs))
packed-within none = tt
packed-within (one {r} {d} {rs} {ds} h g) = onto-within d r (pack_from r rs ds) (pack_from r rs (lasts rs)) h (pack-within g r)

-- divided by the range
rest-within : (r : ℕ) (ws us : List ℕ) → 0 < r → Within ws (onto (r - 1) r us) → Within (rest r ws) us
rest-within r [] [] h k = tt
rest-within r [] (u ∷ us) h k = absurd k
rest-within r (w ∷ ws) [] h k = absurd k
rest-within r (w ∷ ws) (u ∷ us) h k =
    let b : w < suc u * r = omega (arith, k.0, mul_comm (suc u) r, mul-suc r u) in
    let l : w / r < suc u = (div-lt_iff_lt-mul h).1 b in
    (omega arith, k.1)

pub within-room : (p : ℕ) (rs ws : List ℕ) → Ranges rs → Within ws (pack_from p rs (lasts rs)) → So (room_from p rs ws)
unfolding room_from pack_from
within-room p [] [] g h = absurd h
within-room p [] (w ∷ []) g h = (so-eq {m = w} {n = 0}).1 (omega (arith, h.0))
within-room p [] (w ∷ v ∷ ws) g h = absurd h.1
within-room p (r ∷ rs) ws g h = go (leb (p * r) LIMIT) h (within-room (p * r) rs (rest r ws) g.1) (within-room r rs (rest r (next_words ws)) g.1)
  where
    go : (b : Bool) → Within ws (cond b (onto (r - 1) r (pack_from (p * r) rs (lasts rs))) (0 ∷ onto (r - 1) r (pack_from r rs (lasts rs))))
        → (Within (rest r ws) (pack_from (p * r) rs (lasts rs)) → So (room_from (p * r) rs (rest r ws))) → (Within (rest r (next_words ws)) (pack_from r rs (lasts rs)) → So (room_from r rs (rest r (next_words ws))))
        → So (cond b (room_from (p * r) rs (rest r ws)) (spent ws && room_from r rs (rest r (next_words ws))))
    go true h k l = k (rest-within r ws (pack_from (p * r) rs (lasts rs)) g.0 h)
    go false h k l = behind ws h l
      where
        behind : (ws : List ℕ) → Within ws (0 ∷ onto (r - 1) r (pack_from r rs (lasts rs))) → (Within (rest r (next_words ws)) (pack_from r rs (lasts rs)) → So (room_from r rs (rest r (next_words ws))))
            → So (spent ws && room_from r rs (rest r (next_words ws)))
        behind [] h l = absurd h
        behind (w ∷ ws) h l = (and-iff (so-eq {m = w} {n = 0}) (same-iff {a = room_from r rs (rest r ws)})).1 (omega (arith, h.0), l (rest-within r ws (pack_from r rs (lasts rs)) g.0 h.1))

within-roomy : (rs ws : List ℕ) → Ranges rs → Within ws (packed rs (lasts rs)) → So (room rs ws)
within-roomy [] [] g h = refl
within-roomy [] (w ∷ ws) g h = absurd h
within-roomy (r ∷ rs) ws g h = within-room r rs (rest r ws) g.1 (rest-within r ws (pack_from r rs (lasts rs)) g.0 h)

ranges : (t : Trace) (xs : List ℕ) → Ranges (each (range_of t) xs)
unfolding each values
ranges t [] = tt
ranges t (x ∷ xs) = (omega arith, ranges t xs)

module _ (t : Trace) where
  abbrev top : ℕ → ℕ
  top L = range_of t L - 1

  thread-top : (τ : ℕ) → thread_words t top τ ≡ packed (each (range_of t) (readers t τ)) (lasts (each (range_of t) (readers t τ)))
  thread-top τ = ap (packed (each (range_of t) (readers t τ))) (lasts-each (range_of t) (readers t τ))

  up_room : (k σ : ℕ) (ws : List ℕ) → Within ws (words_up_to t top σ k) → So (room_up_to t ws σ k)
  unfolding words_up_to room_up_to
  up_room zero σ [] h = refl
  up_room zero σ (w ∷ ws) h = absurd h
  up_room (suc k) σ ws h =
      let l = thread-long t σ top (top-chosen t) in
      let r = within-take (thread_words t top σ) ws (words_up_to t top (suc σ) k) h in
      let a : Within (take (word_count t σ) ws) (packed (each (range_of t) (readers t σ)) (lasts (each (range_of t) (readers t σ))))
      = subst (λ (us : List ℕ). Within (take (word_count t σ) ws) us) (thread-top σ) (subst (λ (n : ℕ). Within (take n ws) (thread_words t top σ)) l r.0) in
      let b : Within (drop (word_count t σ) ws) (words_up_to t top (suc σ) k) = subst (λ (n : ℕ). Within (drop n ws) (words_up_to t top (suc σ) k)) l r.1 in
      (and-iff (same-iff {a = room (each (range_of t) (readers t σ)) (take (word_count t σ) ws)}) (same-iff {a = room_up_to t (drop (word_count t σ) ws) (suc σ) k})).1
      (within-roomy (each (range_of t) (readers t σ)) (take (word_count t σ) ws) (ranges t (readers t σ)) a, up_room k (suc σ) (drop (word_count t σ) ws) b)

  pub up-within : (g : ℕ → ℕ) → Chosen t g → (k σ : ℕ) → Within (words_up_to t g σ k) (words_up_to t top σ k)
  unfolding words_up_to
  up-within g h zero σ = tt
  up-within g h (suc k) σ =
      within-append (thread_words t g σ) (thread_words t top σ) (words_up_to t g (suc σ) k) (words_up_to t top (suc σ) k)
      (subst (λ (us : List ℕ). Within (thread_words t g σ) us) (sym (thread-top σ)) (packed-within (digits t σ g h))) (up-within g h k (suc σ))

  -- as many words as the program has, none too large
  abbrev pub Fit : List ℕ → Type 0
  Fit ws = (length ws ≡ length (tops t)) × ((k : ℕ) → k < length ws → too_large t ws k ≡ false)

  fit-within : (ws : List ℕ) → Fit ws → Within ws (tops t)
  unfolding too_large
  fit-within ws (l, h) = at-within ws (tops t) l (λ k b. omega (arith, ltb-false (get_or (tops t) k 0) (get_or ws k 0) (h k b)))

  -- such words come back from the reads that they stand for
  pub pack-unpack : Form t → (ws : List ℕ) → Fit ws → signature t (read_of t ws) ≡ ws
  pack-unpack form ws h = pack-back t form ws (up_room THREADS 0 ws (fit-within ws h))

  -- and the words of any reads in their lists are so
  pub pack-fits : (v : ℕ → ℕ) → AllListed t v → Fit (signature t v)
  unfolding too_large
  pack-fits v h =
      let w = up-within (λ L. digit_of t L (v L)) h THREADS 0 in
      (within-long (signature t v) (tops t) w, λ k b. off (λ s. omega (arith, (so-lt {m = get_or (tops t) k 0} {n = get_or (signature t v) k 0}).0 s, within-at (signature t v) (tops t) w k)))
