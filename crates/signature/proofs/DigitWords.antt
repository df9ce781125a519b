-- Packing and unpacking are inverse.
--
--   Digits rs ds             == a digit below each range
--   Ranges rs                == no range is 0
--   room_from, room           == no word is too large for its digits, and there are as many as the ranges take
--   take-pack, taken-packed  == the digits come back
--   pack-take, packed-taken  == so do the words, where none is too large
--   pack-long, packed-long   == how many words there are
--   packed-one               == two lists of digits have equal words exactly when they are equal
--   take_more                == words behind those of the digits change nothing
use mathlib.Core.Path.{◌≡◌, refl, sym, ap, ap₂, ◌∙◌, subst}
use mathlib.Core.Logic.{◌↔◌}
use mathlib.Core.Bool.{Bool, true, false, cond, So, ◌&&◌, false≢true}
use mathlib.Core.List.{List, [], ◌∷◌, ◌++◌}
use Prim.Native.Nat.{ℕ, suc, ◌+◌, ◌*◌, ◌/◌, ◌%◌, ◌<◌, ◌≤◌}
use native.Mathlib.Nat.{add-mul-mod_self_left, add-mul-div_left, mod-eq_of_lt, div-eq_of_lt, mod-lt, mod-add-div}
use native.Mathlib.Omega.{arith}
use lib.Dec.{eqb, leb}
use lib.ListN.{length}
use Rattle.laws.proofs.Tests.{and-iff, same-iff, so-eq}
use Rattle.signature.specs.DigitWords.{LIMIT, onto, least, rest, next_words, words_from, pack_from, take_from, words_of, packed, taken}

pub data Digits : List ℕ → List ℕ → Type 0 where
  none : Digits [] []
  one : {r d : ℕ} {rs ds : List ℕ} → d < r → Digits rs ds → Digits (r ∷ rs) (d ∷ ds)

abbrev pub spent : List ℕ → Bool
spent [] = false
spent (w ∷ ws) = eqb w 0

abbrev pub last : List ℕ → Bool
last [] = false
last (w ∷ []) = eqb w 0
last (w ∷ v ∷ ws) = false

unfoldable pub room_from : ℕ → List ℕ → List ℕ → Bool
room_from p [] ws = last ws
room_from p (r ∷ rs) ws = cond (leb (p * r) LIMIT) (room_from (p * r) rs (rest r ws)) (spent ws && room_from r rs (rest r (next_words ws)))

abbrev pub room : List ℕ → List ℕ → Bool
room [] [] = true
room [] (w ∷ ws) = false
room (r ∷ rs) ws = room_from r rs (rest r ws)

low : (d r w : ℕ) → d < r → (d + r * w) % r ≡ d
low d r w h = add-mul-mod_self_left d r w ∙ mod-eq_of_lt h

high : (d r w : ℕ) → d < r → (d + r * w) / r ≡ w
high d r w h = add-mul-div_left d w (omega arith) ∙ ap (λ k. k + w) (div-eq_of_lt h) ∙ omega arith

-- a list of words that is not empty
abbrev pub Some : List ℕ → Type 0
Some ws = (w : ℕ) × (vs : List ℕ) × (ws ≡ w ∷ vs)

pub pack-some : {rs ds : List ℕ} → Digits rs ds → (p : ℕ) → Some (pack_from p rs ds)
unfolding pack_from
pack-some none p = (0, [], refl)
pack-some (one {r} {d} {rs} {ds} h g) p = go (leb (p * r) LIMIT) (pack-some g (p * r)) (pack-some g r)
  where
    go : (b : Bool) → Some (pack_from (p * r) rs ds) → Some (pack_from r rs ds) → Some (cond b (onto d r (pack_from (p * r) rs ds)) (0 ∷ onto d r (pack_from r rs ds)))
    go true (w, vs, e) k = (d + r * w, vs, ap (onto d r) e)
    go false k l = (0, onto d r (pack_from r rs ds), refl)

least-onto : (d r : ℕ) (ws : List ℕ) → d < r → Some ws → least r (onto d r ws) ≡ d
least-onto d r ws h (w, vs, e) = ap (λ l. least r (onto d r l)) e ∙ low d r w h

rest-onto : (d r : ℕ) (ws : List ℕ) → d < r → rest r (onto d r ws) ≡ ws
rest-onto d r [] h = refl
rest-onto d r (w ∷ ws) h = ap (λ v. v ∷ ws) (high d r w h)

pub take-pack : {rs ds : List ℕ} → Digits rs ds → (p : ℕ) → take_from p rs (pack_from p rs ds) ≡ ds
unfolding pack_from take_from
take-pack none p = refl
take-pack (one {r} {d} {rs} {ds} h g) p = go (leb (p * r) LIMIT) (take-pack g (p * r)) (take-pack g r)
  where
    go : (b : Bool) → take_from (p * r) rs (pack_from (p * r) rs ds) ≡ ds → take_from r rs (pack_from r rs ds) ≡ ds
        → cond b (least r (cond b (onto d r (pack_from (p * r) rs ds)) (0 ∷ onto d r (pack_from r rs ds))) ∷ take_from (p * r) rs (rest r (cond b (onto d r (pack_from (p * r) rs ds)) (0 ∷ onto d r (pack_from r rs ds)))))
        (least r (next_words (cond b (onto d r (pack_from (p * r) rs ds)) (0 ∷ onto d r (pack_from r rs ds)))) ∷ take_from r rs (rest r (next_words (cond b (onto d r (pack_from (p * r) rs ds)) (0 ∷ onto d r (pack_from r rs ds))))))
        ≡ d ∷ ds
    go true k l = ap₂ (λ a bs. a ∷ bs) (least-onto d r (pack_from (p * r) rs ds) h (pack-some g (p * r))) (ap (take_from (p * r) rs) (rest-onto d r (pack_from (p * r) rs ds) h) ∙ k)
    go false k l = ap₂ (λ a bs. a ∷ bs) (least-onto d r (pack_from r rs ds) h (pack-some g r)) (ap (take_from r rs) (rest-onto d r (pack_from r rs ds) h) ∙ l)

pub taken-packed : {rs ds : List ℕ} → Digits rs ds → taken rs (packed rs ds) ≡ ds
taken-packed none = refl
taken-packed (one {r} {d} {rs} {ds} h g) =
    ap₂ (λ a bs. a ∷ bs) (least-onto d r (pack_from r rs ds) h (pack-some g r)) (ap (take_from r rs) (rest-onto d r (pack_from r rs ds) h) ∙ take-pack g r)

-- two sets of reads have equal words exactly when they are equal
pub packed-one : {rs ds es : List ℕ} → Digits rs ds → Digits rs es → (packed rs ds ≡ packed rs es) ↔ (ds ≡ es)
packed-one {rs} g h = (λ e. sym (taken-packed g) ∙ ap (taken rs) e ∙ taken-packed h, λ e. ap (packed rs) e)

-- the words come back, where none is too large
onto-rest : (r : ℕ) (ws : List ℕ) → Some ws → onto (least r ws) r (rest r ws) ≡ ws
onto-rest r ws (w, vs, e) = subst (λ (l : List ℕ). onto (least r l) r (rest r l) ≡ l) (sym e) (ap (λ v. v ∷ vs) (mod-add-div w r))

abbrev pub Ranges : List ℕ → Type 0
Ranges [] = Unit {0}
Ranges (r ∷ rs) = (0 < r) × Ranges rs

room-some : (p : ℕ) (rs ws : List ℕ) → So (room_from p rs ws) → Some ws
unfolding room_from
room-some p [] [] s = absurd (false≢true s)
room-some p [] (w ∷ ws) s = (w, ws, refl)
room-some p (r ∷ rs) (w ∷ ws) s = (w, ws, refl)
room-some p (r ∷ rs) [] s = go (leb (p * r) LIMIT) s (λ u. room-some (p * r) rs [] u)
  where
    go : (b : Bool) → So (cond b (room_from (p * r) rs []) (false && room_from r rs [])) → (So (room_from (p * r) rs []) → Some []) → Some []
    go true s k = k s
    go false s k = absurd (false≢true s)

pub pack-take : (p : ℕ) (rs ws : List ℕ) → So (room_from p rs ws) → pack_from p rs (take_from p rs ws) ≡ ws
unfolding pack_from take_from room_from
pack-take p [] [] s = absurd (false≢true s)
pack-take p [] (w ∷ []) s = ap (λ v. v ∷ []) (sym (so-eq.0 s))
pack-take p [] (w ∷ v ∷ ws) s = absurd (false≢true s)
pack-take p (r ∷ rs) ws s = go (leb (p * r) LIMIT) refl s (pack-take (p * r) rs (rest r ws)) (pack-take r rs (rest r (next_words ws)))
  where
    zero-first : Some ws → So (spent ws) → ws ≡ 0 ∷ next_words ws
    zero-first (w, vs, e) u = e ∙ ap (λ v. v ∷ vs) (so-eq.0 (subst (λ (l : List ℕ). So (spent l)) e u)) ∙ ap (λ l. 0 ∷ next_words l) (sym e)

    some-spent : So (spent ws) → Some ws
    some-spent = any ws
      where
        any : (l : List ℕ) → So (spent l) → Some l
        any [] u = absurd (false≢true u)
        any (w ∷ vs) u = (w, vs, refl)

    some-rest : (l : List ℕ) → Some (rest r l) → Some l
    some-rest [] (w, vs, e) = let z : ◌≡◌ {A = ℕ} 0 1 = cc in absurd (omega arith)
    some-rest (x ∷ xs) k = (x, xs, refl)

    go : (b : Bool) → leb (p * r) LIMIT ≡ b → So (cond b (room_from (p * r) rs (rest r ws)) (spent ws && room_from r rs (rest r (next_words ws))))
        → (So (room_from (p * r) rs (rest r ws)) → pack_from (p * r) rs (take_from (p * r) rs (rest r ws)) ≡ rest r ws)
        → (So (room_from r rs (rest r (next_words ws))) → pack_from r rs (take_from r rs (rest r (next_words ws))) ≡ rest r (next_words ws))
        → pack_from p (r ∷ rs) (cond b (least r ws ∷ take_from (p * r) rs (rest r ws)) (least r (next_words ws) ∷ take_from r rs (rest r (next_words ws)))) ≡ ws
    go true e s k l = ap (λ b. cond b (onto (least r ws) r (pack_from (p * r) rs (take_from (p * r) rs (rest r ws)))) (0 ∷ onto (least r ws) r (pack_from r rs (take_from (p * r) rs (rest r ws))))) e
        ∙ ap (onto (least r ws) r) (k s) ∙ onto-rest r ws (some-rest ws (room-some (p * r) rs (rest r ws) s))
    go false e s k l =
        let (u, v) = (and-iff (same-iff {a = spent ws}) (same-iff {a = room_from r rs (rest r (next_words ws))})).0 s in
        ap (λ b. cond b (onto (least r (next_words ws)) r (pack_from (p * r) rs (take_from r rs (rest r (next_words ws))))) (0 ∷ onto (least r (next_words ws)) r (pack_from r rs (take_from r rs (rest r (next_words ws)))))) e
        ∙ ap (λ l. 0 ∷ l) (ap (onto (least r (next_words ws)) r) (l v) ∙ onto-rest r (next_words ws) (some-rest (next_words ws) (room-some r rs (rest r (next_words ws)) v)))
        ∙ sym (zero-first (some-spent u) u)

pub packed-taken : (rs ws : List ℕ) → So (room rs ws) → packed rs (taken rs ws) ≡ ws
packed-taken [] [] s = refl
packed-taken [] (w ∷ ws) s = absurd (false≢true s)
packed-taken (r ∷ rs) [] s = let (w, vs, e) = room-some r rs [] s in let z : ◌≡◌ {A = ℕ} 0 1 = cc in absurd (omega arith)
packed-taken (r ∷ rs) (w ∷ ws) s = ap (onto (least r (w ∷ ws)) r) (pack-take r rs (rest r (w ∷ ws)) s) ∙ onto-rest r (w ∷ ws) (w, ws, refl)

-- and what is taken is digits
least-low : (r : ℕ) (ws : List ℕ) → 0 < r → least r ws < r
least-low r [] h = h
least-low r (w ∷ ws) h = mod-lt w h

pub take-digits : (p : ℕ) (rs ws : List ℕ) → Ranges rs → Digits rs (take_from p rs ws)
unfolding take_from
take-digits p [] ws g = none
take-digits p (r ∷ rs) ws g = go (leb (p * r) LIMIT) (take-digits (p * r) rs (rest r ws) g.1) (take-digits r rs (rest r (next_words ws)) g.1)
  where
    go : (b : Bool) → Digits rs (take_from (p * r) rs (rest r ws)) → Digits rs (take_from r rs (rest r (next_words ws)))
        → Digits (r ∷ rs) (cond b (least r ws ∷ take_from (p * r) rs (rest r ws)) (least r (next_words ws) ∷ take_from r rs (rest r (next_words ws))))
    go true k l = one (least-low r ws g.0) k
    go false k l = one (least-low r (next_words ws) g.0) l

pub taken-digits : (rs ws : List ℕ) → Ranges rs → Digits rs (taken rs ws)
taken-digits [] ws g = none
taken-digits (r ∷ rs) ws g = one (least-low r ws g.0) (take-digits r rs (rest r ws) g.1)

-- how many words there are
onto-long : (d r : ℕ) (ws : List ℕ) → length (onto d r ws) ≡ length ws
onto-long d r [] = refl
onto-long d r (w ∷ ws) = refl

pub pack-long : {rs ds : List ℕ} → Digits rs ds → (p : ℕ) → length (pack_from p rs ds) ≡ words_from p rs
unfolding pack_from words_from
pack-long none p = refl
pack-long (one {r} {d} {rs} {ds} h g) p = go (leb (p * r) LIMIT) (pack-long g (p * r)) (pack-long g r)
  where
    go : (b : Bool) → length (pack_from (p * r) rs ds) ≡ words_from (p * r) rs → length (pack_from r rs ds) ≡ words_from r rs
        → length (cond b (onto d r (pack_from (p * r) rs ds)) (0 ∷ onto d r (pack_from r rs ds))) ≡ cond b (words_from (p * r) rs) (suc (words_from r rs))
    go true k l = onto-long d r (pack_from (p * r) rs ds) ∙ k
    go false k l = ap suc (onto-long d r (pack_from r rs ds) ∙ l)

pub packed-long : {rs ds : List ℕ} → Digits rs ds → length (packed rs ds) ≡ words_of rs
packed-long none = refl
packed-long (one {r} {d} {rs} {ds} h g) = onto-long d r (pack_from r rs ds) ∙ pack-long g r

-- words behind those of the digits change nothing
pub words-some : (p : ℕ) (rs : List ℕ) → 0 < words_from p rs
unfolding words_from
words-some p [] = omega arith
words-some p (r ∷ rs) = go (leb (p * r) LIMIT) (words-some (p * r) rs)
  where
    go : (b : Bool) → 0 < words_from (p * r) rs → 0 < cond b (words_from (p * r) rs) (suc (words_from r rs))
    go true h = h
    go false h = omega arith

pub take_more : (p : ℕ) (rs ws us : List ℕ) → words_from p rs ≤ length ws → take_from p rs (ws ++ us) ≡ take_from p rs ws
unfolding take_from words_from
take_more p [] ws us h = refl
take_more p (r ∷ rs) [] us h = absurd (omega (arith, words-some p (r ∷ rs), h))
take_more p (r ∷ rs) (w ∷ ws) us h = go (leb (p * r) LIMIT) h (take_more (p * r) rs (w / r ∷ ws) us) (λ v vs. take_more r rs (v / r ∷ vs) us)
  where
    go : (b : Bool) → cond b (words_from (p * r) rs) (suc (words_from r rs)) ≤ suc (length ws)
        → (words_from (p * r) rs ≤ suc (length ws) → take_from (p * r) rs (w / r ∷ ws ++ us) ≡ take_from (p * r) rs (w / r ∷ ws))
        → ((v : ℕ) (vs : List ℕ) → words_from r rs ≤ suc (length vs) → take_from r rs (v / r ∷ vs ++ us) ≡ take_from r rs (v / r ∷ vs))
        → cond b (w % r ∷ take_from (p * r) rs (w / r ∷ ws ++ us)) (least r (ws ++ us) ∷ take_from r rs (rest r (ws ++ us)))
        ≡ cond b (w % r ∷ take_from (p * r) rs (w / r ∷ ws)) (least r ws ∷ take_from r rs (rest r ws))
    go true h k l = ap (λ ds. w % r ∷ ds) (k h)
    go false h k l = behind ws h l
      where
        behind : (ws : List ℕ) → suc (words_from r rs) ≤ suc (length ws) → ((v : ℕ) (vs : List ℕ) → words_from r rs ≤ suc (length vs) → take_from r rs (v / r ∷ vs ++ us) ≡ take_from r rs (v / r ∷ vs))
            → least r (ws ++ us) ∷ take_from r rs (rest r (ws ++ us)) ≡ least r ws ∷ take_from r rs (rest r ws)
        behind [] h l = absurd (omega (arith, words-some r rs))
        behind (v ∷ vs) h l = ap (λ ds. v % r ∷ ds) (l v vs (omega arith))
