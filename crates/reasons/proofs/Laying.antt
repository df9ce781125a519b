-- What the functions that lay numbers and entries do, turn by turn.
--
--   left                        == the steps of a way from place i on
--   numbers-step, numbers-end   == the numbers of the edges of a way
--   way_step, way-stop, way-over == a way, step by step
--   reads_on, reads-off₁, reads-off₂ == whether a load is the one looked for
--   lay-write, lay-skip         == one number more, where there is a place for it, and where there is none
--   put-at                      == what was laid, where the answer is known
--   branch-set                  == a branch with one entry more
--   entry-full, entry-laid      == an entry's head, and what it rests on
--   name-full, name-over, name_done == an entry that is named
use mathlib.Core.Path.{◌≡◌, refl, sym, ap, ap₂, ◌∙◌, subst}
use mathlib.Core.Logic.{inl, inr}
use mathlib.Core.Bool.{Bool, true, false, So, not, ◌&&◌, false≢true}
use mathlib.Core.List.{List, [], ◌∷◌, ◌++◌, append-nil}
use Prim.Native.Nat.{ℕ, suc, ◌+◌, ◌-◌, ◌<◌, ◌≤◌}
use native.Mathlib.Numerals.{add-one}
use native.Mathlib.Omega.{arith}
use lib.Dec.{eqb}
use lib.ListN.{length, get_or, set, take, drop, drop_of_length-le}
use lib.Seq.{sets, take-suc, take-suc-set, drop-cons, get_or-take, append_snoc, length-take-le, set_out, get_or-set_same}
use Rattle.laws.specs.Relation.{Table}
use Rattle.laws.proofs.Tests.{and-iff, same-iff, off}
use Rattle.trace.specs.Bounds.{RECORDS}
use Rattle.rules.specs.Frame.{Frame}
use Rattle.pairs.specs.SourceOf.{source_of}
use Rattle.papers.specs.Paper.{BRANCH, Claim, Entry, named, spell}
use Rattle.papers.specs.inner.ReaderBranch.{branch_of}
use Rattle.papers.proofs.Branches.{branch-more, same_branch, set_same}
use Rattle.reasons.specs.Telling.{edges_of, entry_number, numbers}
use Rattle.reasons.specs.Ways.{step_of, way_of}
use Rattle.reasons.specs.inner.Laid.{PutAt, EntriesTold}
use Rattle.std.specs.Prelude.{Option, Some, None}
use Rattle.reasons.proofs.Places.{Reads, sets-join, sets_more}

-- the first i of a list, and one more that was stored
one_more : (r : List ℕ) (i v : ℕ) (rest : List ℕ) → i < length r → take (i + 1) (set r i v) ++ rest ≡ take i r ++ v ∷ rest
one_more r i v rest h = ap (λ k. take k (set r i v) ++ rest) (add-one i) ∙ ap (λ l. l ++ rest) (take-suc-set r i v h) ∙ append_snoc (take i r) v rest

pub left : (steps : List ℕ) (len : ℕ) → len ≤ length steps → (i : ℕ) → i < len → drop i (take len steps) ≡ get_or steps i 0 ∷ drop (i + 1) (take len steps)
left steps len fits i h =
    drop-cons (take len steps) i 0 (omega (arith, length-take-le len steps fits))
    ∙ ap₂ (λ z k. z ∷ drop k (take len steps)) (get_or-take len steps i 0 h) (sym (add-one i))

module _ (E : List Claim) (steps : List ℕ) (len a b : ℕ) (fits : len ≤ length steps) where
  pub numbers-step : (r : List ℕ) (i x v : ℕ) → i < len → i < length r → v ≡ entry_number E x (get_or steps i 0)
      → take i r ++ numbers E x (drop i (take len steps)) b ≡ numbers E a (take len steps) b
      → take (i + 1) (set r i v) ++ numbers E (get_or steps i 0) (drop (i + 1) (take len steps)) b ≡ numbers E a (take len steps) b
  unfolding numbers
  numbers-step r i x v h l e inv =
      one_more r i v (numbers E (get_or steps i 0) (drop (i + 1) (take len steps)) b) l
      ∙ ap (λ w. take i r ++ w ∷ numbers E (get_or steps i 0) (drop (i + 1) (take len steps)) b) e
      ∙ ap (λ zs. take i r ++ numbers E x zs b) (sym (left steps len fits i h))
      ∙ inv

  pub numbers-end : (r : List ℕ) (i x v : ℕ) → i ≡ len → len < length r → v ≡ entry_number E x b
      → take i r ++ numbers E x (drop i (take len steps)) b ≡ numbers E a (take len steps) b
      → take (len + 1) (set r len v) ≡ numbers E a (take len steps) b
  unfolding numbers
  numbers-end r i x v q l e inv =
      let h : length (take len steps) ≤ len = omega (arith, length-take-le len steps fits) in
      let z : drop len (take len steps) ≡ [] = drop_of_length-le (take len steps) h in
      sym (append-nil (take (len + 1) (set r len v)))
      ∙ one_more r len v [] l
      ∙ ap (λ w. take len r ++ w ∷ []) e
      ∙ ap (λ zs. take len r ++ numbers E x zs b) (sym z)
      ∙ subst (λ (i : ℕ). take i r ++ numbers E x (drop i (take len steps)) b ≡ numbers E a (take len steps) b) q inv

module _ (e c : Table) (b : ℕ) (W : List ℕ) where
  one-step : (m x : ℕ) → e x b ≡ false → way_of e c (suc m) x b ≡ step_of e c x b ∷ way_of e c m (step_of e c x b) b
  unfolding way_of
  one-step m x q = ap (λ (t : Bool). elim t [ true ↦ [] | false ↦ step_of e c x b ∷ way_of e c m (step_of e c x b) b ]) q

  no_step : (m x : ℕ) → e x b ≡ true → way_of e c (suc m) x b ≡ []
  unfolding way_of
  no_step m x q = ap (λ (t : Bool). elim t [ true ↦ [] | false ↦ step_of e c x b ∷ way_of e c m (step_of e c x b) b ]) q

  pub way_step : (out : List ℕ) (i x z : ℕ) → i < RECORDS → i < length out → e x b ≡ false → z ≡ step_of e c x b
      → take i out ++ way_of e c (RECORDS - i) x b ≡ W → take (i + 1) (set out i z) ++ way_of e c (RECORDS - (i + 1)) z b ≡ W
  way_step out i x z h l t q inv =
      let s : RECORDS - i ≡ suc (RECORDS - (i + 1)) = omega arith in
      one_more out i z (way_of e c (RECORDS - (i + 1)) z b) l
      ∙ ap (λ z. take i out ++ z ∷ way_of e c (RECORDS - (i + 1)) z b) q
      ∙ ap (λ zs. take i out ++ zs) (sym (one-step (RECORDS - (i + 1)) x t))
      ∙ ap (λ k. take i out ++ way_of e c k x b) (sym s)
      ∙ inv

  pub way-stop : (out : List ℕ) (i x : ℕ) → i < RECORDS → e x b ≡ true → take i out ++ way_of e c (RECORDS - i) x b ≡ W → take i out ≡ W
  way-stop out i x h t inv =
      let s : RECORDS - i ≡ suc (RECORDS - (i + 1)) = omega arith in
      sym (append-nil (take i out)) ∙ ap (λ zs. take i out ++ zs) (sym (no_step (RECORDS - (i + 1)) x t)) ∙ ap (λ k. take i out ++ way_of e c k x b) (sym s) ∙ inv

  pub way-over : (out : List ℕ) (i x : ℕ) → RECORDS ≤ i → take i out ++ way_of e c (RECORDS - i) x b ≡ W → take i out ≡ W
  unfolding way_of
  way-over out i x h inv =
      let s : RECORDS - i ≡ 0 = omega arith in
      sym (append-nil (take i out)) ∙ ap (λ k. take i out ++ way_of e c k x b) (sym s) ∙ inv

module _ (f : Frame) (C : Table) (x y L s : ℕ) where
  pub reads_on : So (C x L) → s ≡ source_of f L → So (eqb s y && not (eqb x L)) → So (Reads f C x y L)
  reads_on t e u =
      let p = (and-iff same-iff same-iff).0 (subst (λ (s : ℕ). So (eqb s y && not (eqb x L))) e u) in
      (and-iff (and-iff same-iff same-iff) same-iff).1 ((t, p.0), p.1)

  pub reads-off₁ : C x L ≡ false → Reads f C x y L ≡ false
  reads-off₁ e = off (λ t. false≢true (sym e ∙ ((and-iff (and-iff same-iff same-iff) same-iff).0 t).0.0))

  pub reads-off₂ : s ≡ source_of f L → (eqb s y && not (eqb x L)) ≡ false → Reads f C x y L ≡ false
  reads-off₂ e u = off (λ t.
      let p : (So (C x L) × So (eqb (source_of f L) y)) × So (not (eqb x L)) = (and-iff (and-iff same-iff same-iff) same-iff).0 t in
      false≢true (sym (subst (λ (s : ℕ). (eqb s y && not (eqb x L)) ≡ false) e u) ∙ (and-iff {a = eqb (source_of f L) y} same-iff same-iff).1 (p.0.1, p.1)))

module _ (before : List ℕ) (at : ℕ) (words out : List ℕ) (i : ℕ) (h : i < length words) (inv : out ≡ sets before at (take i words)) where
  pub lay-write : set out (at + i) (get_or words i 0) ≡ sets before at (take (i + 1) words)
  lay-write =
      ap (λ o. set o (at + i) (get_or words i 0)) inv
      ∙ ap (λ k. set (sets before at (take i words)) (at + k) (get_or words i 0)) (sym (length-take-le i words (omega arith)))
      ∙ sets_more before at (take i words) (get_or words i 0)
      ∙ ap (sets before at) (sym (ap (λ k. take k words) (add-one i) ∙ take-suc words i 0 h))

  pub lay-skip : length out ≤ at + i → out ≡ sets before at (take (i + 1) words)
  lay-skip l = sym (set_out out (at + i) (get_or words i 0) l) ∙ lay-write

pub put-at : (limit : ℕ) (out : List ℕ) (at : ℕ) (ws out' : List ℕ) (r q : Option ℕ) → PutAt limit out at ws out' r → r ≡ q → PutAt limit out at ws out' q
put-at limit out at ws out' r q h e = subst (PutAt limit out at ws out') e h

-- one entry more, as it is kept in the arrays
pub branch-set : (from to : List ℕ) (n x y : ℕ) → n < length from → n < length to → branch_of (set from n x) (set to n y) (n + 1) ≡ named (branch_of from to n) x y
branch-set from to n x y l k =
    ap (branch_of (set from n x) (set to n y)) (add-one n)
    ∙ branch-more (set from n x) (set to n y) n
    ∙ ap (λ E. named E (get_or (set from n x) n 0) (get_or (set to n y) n 0)) (same_branch (set from n x) (set to n y) from to n (set_same from n x) (set_same to n y))
    ∙ ap₂ (named (branch_of from to n)) (get_or-set_same from n x 0 l) (get_or-set_same to n y 0 k)

-- the numbers of one entry
module _ (rule x y k : ℕ) (rests : List ℕ) (fits : k ≤ length rests) where
  abbrev pub one : Entry
  one = record { rule = rule; from = x; to = y; rests = take k rests }

  abbrev pub head : List ℕ
  head = rule ∷ x ∷ y ∷ k ∷ []

  spelt : spell (one ∷ []) ≡ head ++ take k rests
  unfolding spell
  spelt = ap₂ (λ n l. rule ∷ x ∷ y ∷ n ∷ l) (length-take-le k rests fits) (append-nil (take k rests))

  spelt-long : length (spell (one ∷ [])) ≡ 4 + k
  spelt-long = ap length spelt ∙ (let q : length (head ++ take k rests) ≡ 4 + k = omega (arith, length-take-le k rests fits) in q)

  pub entry-full : (limit : ℕ) (out : List ℕ) (at : ℕ) (out' : List ℕ) → limit < at + 4 → PutAt limit out at (spell (one ∷ [])) out' None
  entry-full limit out at out' h = omega (arith, spelt-long)

  pub entry-laid : (limit : ℕ) (out : List ℕ) (at : ℕ) (out₁ : List ℕ) (p : ℕ) → PutAt limit out at head out₁ (Some p) → (out₂ : List ℕ) (r : Option ℕ)
      → PutAt limit out₁ p (take k rests) out₂ r → PutAt limit out at (spell (one ∷ [])) out₂ r
  entry-laid limit out at out₁ p (a, b, s) out₂ (Some q) (a', b', s') = (
    omega (arith, a, a', spelt-long, length-take-le k rests fits),
    b',
    s' ∙ ap (λ o. sets o p (take k rests)) s ∙ ap (λ j. sets (sets out at head) j (take k rests)) a ∙ sets-join out at head (take k rests) ∙ ap (sets out at) (sym spelt),
  )
  entry-laid limit out at out₁ p (a, b, s) out₂ None h = omega (arith, a, h, spelt-long, length-take-le k rests fits)

  module _ (limit : ℕ) (from to out : List ℕ) (n at : ℕ) where
    pub name-over : (from' to' out' : List ℕ) → BRANCH ≤ n → EntriesTold limit from to out n at (one ∷ []) from' to' out' None
    name-over from' to' out' h = inr (let q : BRANCH < n + 1 = omega arith in q)

    pub name-full : (from' to' out' out'' : List ℕ) → PutAt limit out at (spell (one ∷ [])) out'' None → EntriesTold limit from to out n at (one ∷ []) from' to' out' None
    name-full from' to' out' out'' h = inl h

    pub name_done : (out' : List ℕ) (p : ℕ) → PutAt limit out at (spell (one ∷ [])) out' (Some p) → n < BRANCH → length from ≡ BRANCH → length to ≡ BRANCH
        → EntriesTold limit from to out n at (one ∷ []) (set from n x) (set to n y) out' (Some (n + 1, p))
    unfolding edges_of
    name_done out' p (a, b, s) h lf lt = record {
      counted = refl;
      placed = a;
      small = omega arith;
      fits = b;
      branch = branch-set from to n x y (omega (arith, lf, h)) (omega (arith, lt, h));
      laid = s;
    }
