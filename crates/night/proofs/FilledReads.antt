-- The program with the reads of a run.
--
--   fill-long, fill-at  == as many records; each is the one before with one of the reads
--   seen_at             == the same of a trace
--   seen-well           == it is well formed where the program is, and the reads are values
--   read_small          == what words stand for are values
--   kept_seen           == a model keeps the same pairs of it, whatever the reads
--   kept-rows-seen      == so the rows of its kept pairs are those of the program
--   Filled t vs u k i   == u has the reads in its first i records, k of them used; those still to come make it the program with all of them
--   filled-start, filled-more, filled-end == it is so at first, after one record more, and at the end it is all
use mathlib.Core.Path.{◌≡◌, refl, sym, ap, ap₂, ◌∙◌, subst}
use mathlib.Core.Bool.{Bool, true, false, cond, not, So, ◌&&◌, ◌||◌}
use mathlib.Core.List.{List, [], ◌∷◌, ◌++◌, append_assoc, append-nil}
use Prim.Native.Nat.{ℕ, zero, suc, ◌+◌, ◌<◌, ◌≤◌}
use native.Mathlib.Decide.{dec_lt}
use native.Mathlib.Numerals.{add-one}
use native.Mathlib.Omega.{arith}
use lib.Dec.{eqb, ltb}
use lib.ListN.{length, get_or, set, take, drop, length-set, drop_of_length-le, get_or-eq_default}
use lib.Seq.{take-suc-set, take_all, drop-cons, drop-drop, get_or-drop}
use Rattle.trace.specs.Bounds.{RECORDS, ADDRESSES, VALUES}
use Rattle.laws.specs.Tests.{any}
use Rattle.laws.specs.Picks.{picks}
use Rattle.trace.specs.Op.{thread, address, written, reads, writes, fence}
use Rattle.trace.specs.Trace.{at, first}
use Rattle.trace.specs.Meaning.{frame_of}
use Rattle.trace.specs.FormFacts.{Bounded, WritesThere, Fresh, Follows, Form}
use Rattle.trace.specs.WellFormed.{well_formed}
use Rattle.trace.specs.declared.Op.{Op}
use Rattle.trace.specs.declared.Op.TheVariants.{Load, Store, Swap, Fence}
use Rattle.trace.specs.declared.Record.{Record}
use Rattle.trace.specs.declared.Trace.{Trace}
use Rattle.trace.proofs.Places.{at-past}
use Rattle.trace.proofs.WellFormed.{form-iff}
use Rattle.pairs.specs.Kept.{kind_of, modelled, kept_by, fenced, kept_of}
use Rattle.signature.specs.Reads.{each, other, values, value_of, loads}
use Rattle.signature.specs.Unpack.{digit_in, reads_of}
use Rattle.edges.specs.KeptRows.{KeptRows}
use Rattle.night.specs.FilledReads.{read_as, fill_reads, filled_reads}

pub fill-long : (rs : List Record) (vs : List ℕ) → length (fill_reads rs vs) ≡ length rs
unfolding fill_reads
fill-long [] vs = refl
fill-long (r ∷ rs) vs = ap suc (fill-long rs (cond (reads r.op) (drop 1 vs) vs))

-- past an array's end the language has the first variant at zeros
abbrev pub nothing : Record
nothing = record { op = Load 0 0 0 }

pub fill-at : (rs : List Record) (vs : List ℕ) (i : ℕ) → i < length rs → (j : ℕ) × ((get_or (fill_reads rs vs) i nothing).op ≡ read_as (get_or rs i nothing).op (get_or vs j 0))
unfolding fill_reads
fill-at [] vs i h = absurd (omega arith)
fill-at (r ∷ rs) vs zero h = (0, refl)
fill-at (r ∷ rs) vs (suc i) h = go (reads r.op) (fill-at rs (drop 1 vs) i (omega arith)) (fill-at rs vs i (omega arith))
  where
    go : (b : Bool) → (j : ℕ) × ((get_or (fill_reads rs (drop 1 vs)) i nothing).op ≡ read_as (get_or rs i nothing).op (get_or (drop 1 vs) j 0))
        → (j : ℕ) × ((get_or (fill_reads rs vs) i nothing).op ≡ read_as (get_or rs i nothing).op (get_or vs j 0))
        → (j : ℕ) × ((get_or (fill_reads rs (cond b (drop 1 vs) vs)) i nothing).op ≡ read_as (get_or rs i nothing).op (get_or vs j 0))
    go true (j, e) p = (1 + j, e ∙ ap (read_as (get_or rs i nothing).op) (get_or-drop 1 vs j 0))
    go false q p = p

pub seen_at : (t : Trace) (vs : List ℕ) (i : ℕ) → i < length t.records → (j : ℕ) × (at (filled_reads t vs) i ≡ read_as (at t i) (get_or vs j 0))
unfolding filled_reads
seen_at t vs i h = fill-at t.records vs i h

seen-len : (t : Trace) (vs : List ℕ) → (filled_reads t vs).len ≡ t.len
unfolding filled_reads
seen-len t vs = refl

-- an operation with another read keeps all else
bounded-as : (o : Op) (v : ℕ) → v < VALUES → Bounded o → Bounded (read_as o v)
bounded-as (Load t a r) v h b = record { thread-below = b.thread-below; address_below = b.address_below; read_below = h; written_below = b.written_below }
bounded-as (Store t a w) v h b = b
bounded-as (Swap t a r w) v h b = record { thread-below = b.thread-below; address_below = b.address_below; read_below = h; written_below = b.written_below }
bounded-as (Fence t) v h b = b

writes_as : (o : Op) (v a w : ℕ) → WritesThere (read_as o v) a w → WritesThere o a w
writes_as (Load t b r) v a w h = record { does = h.does; there = h.there; value = h.value }
writes_as (Store t b x) v a w h = h
writes_as (Swap t b r x) v a w h = record { does = h.does; there = h.there; value = h.value }
writes_as (Fence t) v a w h = h

module _ (t : Trace) (vs : List ℕ) (small : (j : ℕ) → get_or vs j 0 < VALUES) where
  -- what is written with other reads was written before
  written_as : (n : ℕ) → n ≤ length t.records → (j : ℕ) → j < n → (a w : ℕ) → WritesThere (at (filled_reads t vs) j) a w → WritesThere (at t j) a w
  written_as n l j h a w x = let (k, e) = seen_at t vs j (omega arith) in writes_as (at t j) (get_or vs k 0) a w (subst (λ (o : Op). WritesThere o a w) e x)

  -- so what is fresh stays fresh
  fresh-as : (n : ℕ) → n ≤ length t.records → (o : Op) (v : ℕ) → (So (writes o) → Fresh t n o) → So (writes (read_as o v)) → Fresh (filled_reads t vs) n (read_as o v)
  unfolding filled_reads first
  fresh-as n l (Load τ a r) v f s = let g = f s in record { later = g.later; once = λ j h w. g.once j h (written_as n l j h a 0 w) }
  fresh-as n l (Store τ a x) v f s = let g = f s in record { later = g.later; once = λ j h w. g.once j h (written_as n l j h a x w) }
  fresh-as n l (Swap τ a r x) v f s = let g = f s in record { later = g.later; once = λ j h w. g.once j h (written_as n l j h a x w) }
  fresh-as n l (Fence τ) v f s = let g = f s in record { later = g.later; once = λ j h w. g.once j h (written_as n l j h 0 0 w) }

  pub seen-form : Form t → Form (filled_reads t vs)
  unfolding filled_reads first
  seen-form f = record {
    places = fill-long t.records vs ∙ f.places;
    fits = f.fits;
    addresses = f.addresses;
    begins = f.begins;
    used = λ i h.
        let (j, e) = seen_at t vs i (omega (arith, f.places, f.fits)) in
        let g = f.used i h in
        subst (λ (o : Op). Follows (filled_reads t vs) i o) (sym e) (record { keeps = bounded-as (at t i) (get_or vs j 0) (small j) g.keeps; fresh = fresh-as i (omega (arith, f.places, f.fits)) (at t i) (get_or vs j 0) g.fresh });
    rest = λ i h l. let (j, e) = seen_at t vs i (omega (arith, f.places)) in e ∙ ap (λ (o : Op). read_as o (get_or vs j 0)) (f.rest i h l);
  }

  pub seen-well : So (well_formed t) → So (well_formed (filled_reads t vs))
  seen-well w = (form-iff (filled_reads t vs)).1 (seen-form ((form-iff t).0 w))

-- a list of small numbers
each-small : (g : ℕ → ℕ) (xs : List ℕ) → ((x : ℕ) → g x < VALUES) → (i : ℕ) → get_or (each g xs) i 0 < VALUES
unfolding each
each-small g [] h i = omega arith
each-small g (x ∷ xs) h zero = h x
each-small g (x ∷ xs) h (suc i) = each-small g xs h i

module _ (t : Trace) (f : Form t) where
  first_small : (a : ℕ) → first t a < VALUES
  unfolding first
  first_small a = elim (dec_lt a ADDRESSES) [
    | yes h ↦ f.begins a h
    | no h ↦ omega (arith, get_or-eq_default t.firsts 0 {n = a} (omega (arith, f.addresses)))
  ]

  written_small : (i : ℕ) → written (at t i) < VALUES
  written_small i = elim (dec_lt i t.len) [
    | yes h ↦ (f.used i h).keeps.written_below
    | no h ↦ elim (dec_lt i RECORDS) [
      | yes l ↦ rw (f.rest i (omega arith) l) (omega arith)
      | no l ↦ rw (at-past t f.places i (omega arith)) (omega arith)
    ]
  ]

  value-small : (L d : ℕ) → value_of t L d < VALUES
  unfolding values
  value-small L zero = first_small (address (at t L))
  value-small L (suc d) = each-small (λ i. written (at t i)) (picks (other t L) 0 t.len) written_small d

  pub read_small : (ws : List ℕ) (i : ℕ) → get_or (reads_of t ws) i 0 < VALUES
  read_small ws i = each-small (λ L. value_of t L (digit_in t ws L)) (loads t) (λ L. value-small L (digit_in t ws L)) i

-- what does not look at reads
same-thread : (o : Op) (v : ℕ) → thread (read_as o v) ≡ thread o
same-thread (Load t a r) v = refl
same-thread (Store t a w) v = refl
same-thread (Swap t a r w) v = refl
same-thread (Fence t) v = refl

same_address : (o : Op) (v : ℕ) → address (read_as o v) ≡ address o
same_address (Load t a r) v = refl
same_address (Store t a w) v = refl
same_address (Swap t a r w) v = refl
same_address (Fence t) v = refl

same_kind : (o : Op) (v : ℕ) → kind_of (read_as o v) ≡ kind_of o
same_kind (Load t a r) v = refl
same_kind (Store t a w) v = refl
same_kind (Swap t a r w) v = refl
same_kind (Fence t) v = refl

same-fence : (o : Op) (v : ℕ) → fence (read_as o v) ≡ fence o
same-fence (Load t a r) v = refl
same-fence (Store t a w) v = refl
same-fence (Swap t a r w) v = refl
same-fence (Fence t) v = refl

module _ (t : Trace) (vs : List ℕ) where
  -- any place, used or not, holds what it did, but for what it read
  pub place : (i : ℕ) → (v : ℕ) × (at (filled_reads t vs) i ≡ read_as (at t i) v)
  unfolding filled_reads
  place i = elim (dec_lt i (length t.records)) [
    | yes h ↦ let (j, e) = fill-at t.records vs i h in (get_or vs j 0, e)
    | no h ↦
        let a : at t i ≡ Load 0 0 0 = ap (λ (r : Record). r.op) (get_or-eq_default t.records nothing {n = i} (omega arith)) in
        let b : (get_or (fill_reads t.records vs) i nothing).op ≡ Load 0 0 0 = ap (λ (r : Record). r.op) (get_or-eq_default (fill_reads t.records vs) nothing {n = i} (omega (arith, fill-long t.records vs))) in
        (0, b ∙ sym (ap (λ (o : Op). read_as o 0) a))
  ]

  threads : (i : ℕ) → thread (at (filled_reads t vs) i) ≡ thread (at t i)
  threads i = let (v, e) = place i in ap thread e ∙ same-thread (at t i) v

  pub addresses : (i : ℕ) → address (at (filled_reads t vs) i) ≡ address (at t i)
  addresses i = let (v, e) = place i in ap address e ∙ same_address (at t i) v

  kinds : (i : ℕ) → kind_of (at (filled_reads t vs) i) ≡ kind_of (at t i)
  kinds i = let (v, e) = place i in ap kind_of e ∙ same_kind (at t i) v

  fences : (i : ℕ) → fence (at (filled_reads t vs) i) ≡ fence (at t i)
  fences i = let (v, e) = place i in ap fence e ∙ same-fence (at t i) v

  pub kept_seen : (m x y : ℕ) → kept_of m (filled_reads t vs) x y ≡ kept_of m t x y
  unfolding kept_of frame_of fenced
  kept_seen m x y = λ j.
      (ltb x y && eqb (threads x j) (threads y j)) && (ltb x (len j) && not (fences x j)) && (ltb y (len j) && not (fences y j)) && modelled m
      && (kept_by m (kinds x j) (kinds y j) (eqb (addresses x j) (addresses y j)) || any y (λ i. fences i j && ltb x i && eqb (threads i j) (threads x j)))
    where
      len : (filled_reads t vs).len ≡ t.len
      len = seen-len t vs

  pub kept-rows-seen : (m : ℕ) (kept : List ℕ) → KeptRows t m kept → KeptRows (filled_reads t vs) m kept
  kept-rows-seen m kept k = record {
    full = k.full;
    has = λ l x y. k.has (omega (arith, seen-len t vs)) x y ∙ sym (kept_seen m x y);
    none = λ l. k.none (omega (arith, seen-len t vs));
  }

module _ (t : Trace) (vs : List ℕ) where
  pub record Filled (u : Trace) (k i : ℕ) : Type 0 where
    pub len : u.len ≡ t.len
    pub firsts : u.firsts ≡ t.firsts
    pub long : length u.records ≡ length t.records
    pub all : take i u.records ++ fill_reads (drop i t.records) (drop k vs) ≡ fill_reads t.records vs
    pub low : k ≤ i

  pub filled-start : Filled t 0 0
  filled-start = record { len = refl; firsts = refl; long = refl; all = refl; low = omega arith }

  module _ (u : Trace) (k i : ℕ) (p : Filled u k i) where
    -- the record at i, with its read
    abbrev pub next : Record
    next = record { op = read_as (at t i) (get_or vs k 0) }

    -- the records behind it take the reads that are left
    later : i < length t.records → fill_reads (drop i t.records) (drop k vs) ≡ next ∷ fill_reads (drop (suc i) t.records) (cond (reads (at t i)) (drop 1 (drop k vs)) (drop k vs))
    unfolding fill_reads
    later h =
        ap (λ (rs : List Record). fill_reads rs (drop k vs)) (drop-cons t.records i nothing h)
        ∙ ap (λ (v : ℕ). record { op = read_as (at t i) v } ∷ fill_reads (drop (suc i) t.records) (cond (reads (at t i)) (drop 1 (drop k vs)) (drop k vs))) (get_or-drop k vs 0 0 ∙ ap (λ (n : ℕ). get_or vs n 0) (let e : k + 0 ≡ k = omega arith in e))

    -- with the read in, whichever reads are left
    more : i < length t.records → (us : List ℕ) → us ≡ cond (reads (at t i)) (drop 1 (drop k vs)) (drop k vs)
        → take (i + 1) (set u.records i next) ++ fill_reads (drop (i + 1) t.records) us ≡ fill_reads t.records vs
    more h us e =
        ap₂ (λ (rs : List Record) (n : ℕ). rs ++ fill_reads (drop n t.records) us) (ap (λ (n : ℕ). take n (set u.records i next)) (add-one i) ∙ take-suc-set u.records i next (omega (arith, p.long))) (add-one i)
        ∙ append_assoc (take i u.records) (next ∷ []) (fill_reads (drop (suc i) t.records) us)
        ∙ ap (λ (us : List ℕ). take i u.records ++ (next ∷ fill_reads (drop (suc i) t.records) us)) e
        ∙ ap (λ (rs : List Record). take i u.records ++ rs) (sym (later h))
        ∙ p.all

    pub filled-read : i < length t.records → So (reads (at t i)) → Filled (record { records = set u.records i next; len = u.len; firsts = u.firsts }) (k + 1) (i + 1)
    filled-read h s = record {
      len = p.len;
      firsts = p.firsts;
      long = length-set u.records i next ∙ p.long;
      all = more h (drop (k + 1) vs) (sym (drop-drop 1 k vs) ∙ ap (λ (b : Bool). cond b (drop 1 (drop k vs)) (drop k vs)) (sym s));
      low = omega (arith, p.low);
    }

    pub filled-pass : i < length t.records → reads (at t i) ≡ false → Filled (record { records = set u.records i next; len = u.len; firsts = u.firsts }) k (i + 1)
    filled-pass h e = record {
      len = p.len;
      firsts = p.firsts;
      long = length-set u.records i next ∙ p.long;
      all = more h (drop k vs) (ap (λ (b : Bool). cond b (drop 1 (drop k vs)) (drop k vs)) (sym e));
      low = omega (arith, p.low);
    }

    pub filled-end : length t.records ≤ i → u ≡ filled_reads t vs
    unfolding filled_reads fill_reads
    filled-end h =
        let e : u.records ≡ fill_reads t.records vs
        = sym (take_all i u.records (omega (arith, p.long))) ∙ sym (append-nil (take i u.records)) ∙ sym (ap (λ (rs : List Record). take i u.records ++ fill_reads rs (drop k vs)) (drop_of_length-le t.records h)) ∙ p.all in
        λ j. record { records = e j; len = p.len j; firsts = p.firsts j }
