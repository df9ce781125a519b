-- A list put into another place by place.
--
--   put-start, put_one, put-end == the first i stand there
--   puts-start, puts-room, puts-on, puts-next, puts-end == the reads of the loads among the first i records do
--   read_no, read-yes           == one record looked at
use mathlib.Core.Path.{◌≡◌, refl, sym, ap, ◌∙◌, subst}
use mathlib.Core.Bool.{Bool, true, false, cond, So}
use mathlib.Core.List.{List, [], ◌∷◌, ◌++◌, append_assoc, append-nil}
use Prim.Native.Nat.{ℕ, ◌+◌, ◌<◌, ◌≤◌}
use native.Mathlib.Numerals.{add-one}
use native.Mathlib.Omega.{arith}
use lib.ListN.{length, get_or, set, take, length-set}
use lib.Seq.{take-suc, take-suc-set, take_all}
use Rattle.trace.specs.Op.{reads}
use Rattle.trace.specs.Trace.{at}
use Rattle.trace.specs.declared.Trace.{Trace}
use Rattle.signature.specs.Reads.{each, value_of, loads}
use Rattle.signature.specs.inner.LoadLists.{place_after, read_put}
use Rattle.signature.specs.inner.WordsLaid.{laid_words}
use Rattle.signature.specs.declared.Open.{Open}
use Rattle.signature.proofs.Passing.{loads_from, loads-whole, loads-one, loads-none, loads-end}

pub put-start : (ws us : List ℕ) → take 0 ws ≡ take 0 us
put-start ws us = refl

pub put_one : (ws us : List ℕ) (i : ℕ) → i < length ws → i < length us → take i ws ≡ take i us → take (i + 1) (set ws i (get_or us i 0)) ≡ take (i + 1) us
put_one ws us i h k e =
    ap (λ (n : ℕ). take n (set ws i (get_or us i 0))) (add-one i)
    ∙ take-suc-set ws i (get_or us i 0) h
    ∙ ap (λ (l : List ℕ). l ++ (get_or us i 0 ∷ [])) e
    ∙ sym (ap (λ (n : ℕ). take n us) (add-one i) ∙ take-suc us i 0 k)

pub put-end : (ws : List ℕ) (o : Open) (i : ℕ) → length ws ≤ i → i ≡ o.count → take i ws ≡ take i o.of → ws ≡ laid_words o
unfolding laid_words
put-end ws o i h k e = sym (take_all i ws h) ∙ e ∙ ap (λ (n : ℕ). take n o.of) k

-- the reads put by record number
module _ (t : Trace) (d : ℕ → ℕ) where
  -- what a record is told to have read
  abbrev pub told : ℕ → ℕ
  told L = value_of t L (d L)

  -- what is put, and what is still to come, are all; and there is a place for each
  pub record Puts (vs : List ℕ) (k i : ℕ) : Type 0 where
    pub all : take k vs ++ each told (loads_from t i) ≡ each told (loads t)
    pub places : k + length (loads_from t i) ≡ length (loads t)
    pub long : length vs ≡ length (loads t)
    pub low : k ≤ i

  pub puts-start : (vs : List ℕ) → length vs ≡ length (loads t) → Puts vs 0 0
  puts-start vs l = record { all = ap (each told) (loads-whole t); places = omega (arith, ap length (loads-whole t)); long = l; low = omega arith }

  pub puts-room : (vs : List ℕ) (k i : ℕ) → i < t.len → Puts vs k i → So (reads (at t i)) → k < length vs
  puts-room vs k i h p s = omega (arith, p.places, p.long, ap length (loads-one t i h s))

  pub puts-on : (vs : List ℕ) (k i : ℕ) → i < t.len → Puts vs k i → Puts (read_put t i k (d i) vs) (place_after t i k) (i + 1)
  unfolding read_put place_after each
  puts-on vs k i h p = go (reads (at t i)) refl
    where
      go : (b : Bool) → reads (at t i) ≡ b → Puts (cond b (set vs k (value_of t i (d i))) vs) (cond b (k + 1) k) (i + 1)
      go true e =
          let o = loads-one t i h e in
          let room : k < length vs = puts-room vs k i h p e in
          record {
            all = ap (λ (l : List ℕ). l ++ each told (loads_from t (i + 1))) (ap (λ (n : ℕ). take n (set vs k (told i))) (add-one k) ∙ take-suc-set vs k (told i) room)
                ∙ append_assoc (take k vs) (told i ∷ []) (each told (loads_from t (i + 1)))
                ∙ ap (λ (l : List ℕ). take k vs ++ each told l) (sym o)
                ∙ p.all;
            places = omega (arith, p.places, ap length o);
            long = length-set vs k (told i) ∙ p.long;
            low = omega (arith, p.low);
          }
      go false e =
          let o = loads-none t i h e in
          record { all = ap (λ (l : List ℕ). take k vs ++ each told l) (sym o) ∙ p.all; places = omega (arith, p.places, ap length o); long = p.long; low = omega (arith, p.low) }

  pub puts-next : (vs us : List ℕ) (k r i : ℕ) → i < t.len → Puts vs k i → r ≡ place_after t i k → us ≡ read_put t i k (d i) vs → Puts us r (i + 1)
  puts-next vs us k r i h p e f = subst (λ (r : ℕ). Puts us r (i + 1)) (sym e) (subst (λ (us : List ℕ). Puts us (place_after t i k) (i + 1)) (sym f) (puts-on vs k i h p))

  pub puts-end : (vs : List ℕ) (k i : ℕ) → t.len ≤ i → Puts vs k i → vs ≡ each told (loads t)
  unfolding each
  puts-end vs k i h p =
      let o = loads-end t i h in
      let full : length vs ≤ k = omega (arith, p.places, p.long, ap length o) in
      sym (take_all k vs full) ∙ sym (ap (λ (l : List ℕ). take k vs ++ each told l) o ∙ append-nil (take k vs)) ∙ p.all

module _ (t : Trace) (i k d : ℕ) (vs : List ℕ) where
  pub read_no : reads (at t i) ≡ false → (k ≡ place_after t i k) × (vs ≡ read_put t i k d vs)
  unfolding read_put place_after
  read_no e = (ap (λ (b : Bool). cond b (k + 1) k) (sym e), ap (λ (b : Bool). cond b (set vs k (value_of t i d)) vs) (sym e))

  pub read-yes : So (reads (at t i)) → (v : ℕ) → v ≡ value_of t i d → (k + 1 ≡ place_after t i k) × (set vs k v ≡ read_put t i k d vs)
  unfolding read_put place_after
  read-yes e v f = (ap (λ (b : Bool). cond b (k + 1) k) (sym e), ap (set vs k) f ∙ ap (λ (b : Bool). cond b (set vs k (value_of t i d)) vs) (sym e))
