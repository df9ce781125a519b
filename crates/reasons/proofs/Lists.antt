-- How the list is laid, branch by branch.
--
--   drawn-none, drawn-more, drawn-supposed == the rows of a branch, entry by entry; they suppose what it names
--   next-circle, next-split     == what comes next in a branch
--   kept-front                  == a branch of one entry more that is kept is kept without it
--   Splitting, splitting, closed-fair == what is known where a branch splits, and where it closes
--   circle-here, split-here     == the same, once the rows are drawn and what comes next is known
--   paper-closed                == the list of a branch that closes
--   side-joins, side-closes, side-list == one side of a split, as the arrays keep it
--   kept_at                     == what was laid, where the answer is known
--   split-over, first-over, sides-laid == the entry of a split, and then the lists for both sides
use mathlib.Core.Path.{◌≡◌, sym, ap, ap₂, ◌∙◌, subst, subst⁻¹, fun_ext}
use mathlib.Core.Logic.{◌⊎◌, inl, inr}
use mathlib.Core.Bool.{false, So, false≢true}
use mathlib.Core.List.{List, [], ◌∷◌, ◌++◌, append_assoc}
use mathlib.Core.Option.{Option}
use Prim.Native.Nat.{ℕ, suc, ◌+◌, ◌-◌, ◌<◌, ◌≤◌}
use native.Mathlib.Decide.{dec_lt}
use native.Mathlib.Nat.{not-suc-le-zero}
use native.Mathlib.Numerals.{add-one}
use native.Mathlib.Omega.{arith}
use lib.ListN.{length, get_or, set, length-append}
use lib.Seq.{sets}
use Rattle.laws.specs.Relation.{Table}
use Rattle.laws.specs.ListOf.{row}
use Rattle.laws.proofs.Tests.{same-iff, so-lt, test-one}
use Rattle.trace.specs.Bounds.{RECORDS}
use Rattle.trace.specs.WellFormed.{well_formed}
use Rattle.trace.specs.Meaning.{frame_of}
use Rattle.trace.specs.declared.Trace.{Trace}
use Rattle.trace.proofs.Good.{good}
use Rattle.trace.proofs.WellFormed.{form-iff}
use Rattle.rows.specs.Bounds.{CELLS}
use Rattle.rows.specs.Rows.{bit}
use Rattle.rows.specs.Put.{put_of}
use Rattle.rows.specs.Empty.{empty_of}
use Rattle.rows.proofs.Pair.{put-iff, put-long, put-left, put_right}
use Rattle.rows.proofs.Whole.{empty-bit, empty-long}
use Rattle.rules.specs.Frame.{Frame}
use Rattle.rules.specs.Rules.{Joins}
use Rattle.pairs.specs.Kept.{modelled, kept_of}
use Rattle.pairs.proofs.KeptPairs.{kept-joins}
use Rattle.edges.specs.Supposed.{supposed_of}
use Rattle.edges.specs.ForcedPairs.{Forces}
use Rattle.edges.specs.declared.Forced.{Forced}
use Rattle.edges.proofs.Supposed.{supposed-iff}
use Rattle.papers.specs.Paper.{BRANCH, Claim, Entry, named, spell}
use Rattle.papers.specs.inner.ReaderBranch.{branch_of}
use Rattle.papers.proofs.Branches.{branch-more}
use Rattle.reasons.specs.Telling.{inside}
use Rattle.reasons.specs.Writing.{split_entry, fallen, choose, leaf_of, paper_of}
use Rattle.reasons.specs.inner.Fair.{Fair}
use Rattle.reasons.specs.inner.Closable.{Closable, closes, parts}
use Rattle.reasons.specs.inner.Choice.{ReadRow, SupposedIn, NamedRows, Known, ChosenPair, NextIn}
use Rattle.reasons.specs.inner.Laid.{PutAt}
use Rattle.reasons.specs.inner.PutKept.{PutKept}
use Rattle.std.specs.Prelude.{Some, None}
use Rattle.std.specs.Prelude as std
use Rattle.reasons.specs.declared.choice.Choice.{Choice}
use Rattle.reasons.specs.declared.choice.Next.{Next}
use Rattle.reasons.specs.declared.choice.Next.TheVariants.{Circle, Split}
use Rattle.reasons.proofs.Names.{inside-iff, named-grow, named-last, named-cases}
use Rattle.reasons.proofs.Places.{sets-join}
use Rattle.reasons.proofs.Laying.{branch-set}
use Rattle.reasons.proofs.Joining.{spell-append}
use Rattle.reasons.proofs.Writing.{still-joins, paper-leaf, paper-parts, chosen-open}
use Rattle.reasons.proofs.Closed.{numbered, closed_branch}
use Rattle.reasons.proofs.Leaves.{branch-front}

pub drawn-none : (from to : List ℕ) → NamedRows (branch_of from to 0) (empty_of CELLS)
unfolding branch_of row
drawn-none from to = (empty-long CELLS, λ x y. (λ u. absurd (false≢true (sym (empty-bit CELLS x y) ∙ u)), λ h. absurd (not-suc-le-zero ((inside-iff [] x y).0 h.2).1)))

-- one pair more
module _ (E : List Claim) (rows : List ℕ) (a b : ℕ) (h : NamedRows E rows) where
  -- the pair is put, or it is none of records
  put-or : ((a < RECORDS) × (b < RECORDS)) ⊎ ((put_of rows a b ≡ rows) × (a < RECORDS → b < RECORDS → ⊥))
  put-or = elim (dec_lt a RECORDS) [
    | yes p ↦ elim (dec_lt b RECORDS) [ yes q ↦ inl (p, q) | no q ↦ inr (put_right rows a b (omega arith), λ _ l. q l) ]
    | no p ↦ inr (put-left rows a b (omega arith), λ l _. p l)
  ]

  grown : (x y : ℕ) → So (inside E x y) → So (inside (named E a b) x y)
  grown x y u = (inside-iff (named E a b) x y).1 (named-grow E (record { from = a; to = b } ∷ []) x y ((inside-iff E x y).0 u))

  pub drawn-one : NamedRows (named E a b) (put_of rows a b)
  drawn-one = (
    put-long rows a b ∙ h.0,
    λ x y. elim put-or [
      | inl l ↦ let i = put-iff rows a b l.0 l.1 (omega (arith, h.0)) x y in (
        λ u. elim (i.0 u) [
          | inl v ↦ let s = (h.1 x y).0 v in (s.0, s.1, grown x y s.2)
          | inr e ↦ rw (e.0, e.1) (l.0, l.1, (inside-iff (named E a b) a b).1 (named-last E a b))
        ],
        λ s. i.1 (elim (named-cases E a b x y ((inside-iff (named E a b) x y).0 s.2)) [ inl n ↦ inl ((h.1 x y).1 (s.0, s.1, (inside-iff E x y).1 n)) | inr e ↦ inr (sym e.0, sym e.1) ]),
      )
      | inr l ↦ (
        λ u. let s = (h.1 x y).0 (subst (λ (r : List ℕ). So (bit r x y)) l.0 u) in (s.0, s.1, grown x y s.2),
        λ s. subst⁻¹ (λ (r : List ℕ). So (bit r x y)) l.0 (elim (named-cases E a b x y ((inside-iff (named E a b) x y).0 s.2)) [
          | inl n ↦ (h.1 x y).1 (s.0, s.1, (inside-iff E x y).1 n)
          | inr e ↦ absurd (l.1 (subst⁻¹ (λ (a : ℕ). a < RECORDS) e.0 s.0) (subst⁻¹ (λ (b : ℕ). b < RECORDS) e.1 s.1))
        ]),
      )
    ],
  )

pub drawn-more : (from to : List ℕ) (n : ℕ) (rows : List ℕ) → NamedRows (branch_of from to n) rows → NamedRows (branch_of from to (n + 1)) (put_of rows (get_or from n 0) (get_or to n 0))
drawn-more from to n rows h =
    subst⁻¹ (λ (E : List Claim). NamedRows E (put_of rows (get_or from n 0) (get_or to n 0))) (ap (branch_of from to) (add-one n) ∙ branch-more from to n) (drawn-one (branch_of from to n) rows (get_or from n 0) (get_or to n 0) h)

module _ (t : Trace) (w : So (well_formed t)) where
  pub drawn-supposed : (E : List Claim) (rows : List ℕ) → Joins (frame_of t) (inside E) → NamedRows E rows → SupposedIn t rows E
  drawn-supposed E rows j h = fun_ext (λ x. fun_ext (λ y. same x y))
    where
      same : (x y : ℕ) → supposed_of t rows x y ≡ inside E x y
      same x y =
          let i = supposed-iff t rows x y in
          test-one {A = So (inside E x y)}
          (λ u. ((h.1 x y).0 (i.0 u).1).2, λ u. let o = j x y u in i.1 (o, (h.1 x y).1 (numbered t w x o.0, numbered t w y o.1, u))) same-iff

  module _ (m : ℕ) (k : So (modelled m)) (rows : List ℕ) (E : List Claim) (s : SupposedIn t rows E) (r : Forced) (h : Forces t m rows r) where
    pub next-circle : So r.contradicted → NextIn (frame_of t) (kept_of m t) E Circle
    next-circle c = sym (closed_branch t w rows E s m k r h).0 ∙ c

    pub known : length rows ≡ CELLS → (read : List ℕ) → ReadRow (frame_of t) read → Known t m E rows read r.held
    known l read g = record { long = l; supposed = s; read-from = g; held_rows = (closed_branch t w rows E s m k r h).1 }

    pub next-split : r.contradicted ≡ false → (c : Choice) → ChosenPair (choose (frame_of t) (kept_of m t) E) c → NextIn (frame_of t) (kept_of m t) E (Split c.x c.y)
    next-split q c u = (sym (closed_branch t w rows E s m k r h).0 ∙ q, λ p e. subst (λ (o : Option (ℕ × ℕ)). ChosenPair o c) e u)

pub kept-front : (from to : List ℕ) (n x y : ℕ) (from' to' : List ℕ) → n < length from → n < length to → branch_of from' to' (n + 1) ≡ branch_of (set from n x) (set to n y) (n + 1) → branch_of from' to' n ≡ branch_of from to n
kept-front from to n x y from' to' l k e = branch-front from to n from' to' (n + 1) (record { from = x; to = y } ∷ []) (omega arith) (e ∙ branch-set from to n x y l k)

module _ (t : Trace) (w : So (well_formed t)) (m : ℕ) where
  abbrev f : Frame
  f = frame_of t

  abbrev K : Table
  K = kept_of m t

  small : (frame_of t).records ≤ RECORDS
  unfolding frame_of
  small = ((form-iff t).0 w).fits

  pub record Splitting (k : ℕ) (E : List Claim) (a b : ℕ) : Type 0 where
    pub fuel : 0 < k
    pub room : length E < BRANCH
    pub operations : So ((frame_of t).operation a) × So ((frame_of t).operation b)
    pub list : paper_of (frame_of t) (kept_of m t) k E ≡ split_entry a b ∷ paper_of (frame_of t) (kept_of m t) (k - 1) (named E a b) ++ paper_of (frame_of t) (kept_of m t) (k - 1) (named E b a)
    pub first : Closable (frame_of t) (kept_of m t) (k - 1) (named E a b)
    pub other : Closable (frame_of t) (kept_of m t) (k - 1) (named E b a)

  pub splitting : {k : ℕ} {E : List Claim} → Closable f K k E → (a b : ℕ) → NextIn f K E (Split a b) → Splitting k E a b
  splitting (closes d c) a b (q, n) = absurd (false≢true (sym q ∙ c))
  splitting (parts {m = k} {E} x y l q' e u v) a b (q, n) =
      let o = chosen-open f (good t w) small K (kept-joins m t) E x y e in
      let i = n (x, y) e in
      let less : suc k - 1 ≡ k = omega arith in
      let s : Splitting (suc k) E x y = record {
        fuel = omega arith;
        room = so-lt.0 l;
        operations = ((good t w).writes x o.0.0.0.0, (good t w).writes y o.0.0.0.1.writes);
        list = subst⁻¹ (λ (j : ℕ). paper_of f K (suc k) E ≡ split_entry x y ∷ paper_of f K j (named E x y) ++ paper_of f K j (named E y x)) less (paper-parts f (good t w) small K (kept-joins m t) k E x y q e);
        first = subst⁻¹ (λ (j : ℕ). Closable f K j (named E x y)) less u;
        other = subst⁻¹ (λ (j : ℕ). Closable f K j (named E y x)) less v;
      } in
      subst⁻¹ (λ (a : ℕ). Splitting (suc k) E a b) i.0 (subst⁻¹ (λ (b : ℕ). Splitting (suc k) E x b) i.1 s)

  -- the list of a branch that has a circle
  pub paper-closed : (k : ℕ) (E : List Claim) → So (fallen f K E) → paper_of f K k E ≡ leaf_of f K E
  paper-closed k E c = paper-leaf f (good t w) small K (kept-joins m t) k E c

  pub closed-fair : {k : ℕ} {E : List Claim} → Closable f K k E → So (fallen f K E) → Fair f.records E
  closed-fair (closes d c) h = d
  closed-fair (parts x y l q e u v) h = absurd (false≢true (sym q ∙ h))

  -- the branch that the arrays keep, once its rows are drawn and what comes next is known
  module _ (k n : ℕ) (from to rows : List ℕ) (j : Joins f (inside (branch_of from to n))) (h : NamedRows (branch_of from to n) rows) (r : Next)
      (next : (E : List Claim) → SupposedIn t rows E → NextIn f K E r) where
    pub here-supposed : SupposedIn t rows (branch_of from to n)
    here-supposed = drawn-supposed t w (branch_of from to n) rows j h

    pub circle-here : r ≡ Circle → So (fallen f K (branch_of from to n))
    circle-here e = subst (NextIn f K (branch_of from to n)) e (next (branch_of from to n) here-supposed)

    pub split-here : (x y : ℕ) → r ≡ Split x y → Closable f K k (branch_of from to n) → Splitting k (branch_of from to n) x y
    split-here x y e c = splitting c x y (subst (NextIn f K (branch_of from to n)) e (next (branch_of from to n) here-supposed))

-- the entry of a split, and then the lists of both sides
module _ (limit : ℕ) (out : List ℕ) (at a b : ℕ) (es fs : List Entry) where
  abbrev whole : List Entry
  whole = split_entry a b ∷ (es ++ fs)

  spelt : spell whole ≡ spell (split_entry a b ∷ []) ++ (spell es ++ spell fs)
  unfolding spell
  spelt = spell-append (split_entry a b ∷ []) (es ++ fs) ∙ ap (λ l. spell (split_entry a b ∷ []) ++ l) (spell-append es fs)

  long : length (spell whole) ≡ length (spell (split_entry a b ∷ [])) + (length (spell es) + length (spell fs))
  long = ap length spelt ∙ length-append (spell (split_entry a b ∷ [])) (spell es ++ spell fs) ∙ ap (λ k. length (spell (split_entry a b ∷ [])) + k) (length-append (spell es) (spell fs))

  pub split-over : (out' : List ℕ) → PutAt limit out at (spell (split_entry a b ∷ [])) out' None → limit < at + length (spell whole)
  split-over out' h = omega (arith, h, long)

  module _ (out₁ : List ℕ) (p : ℕ) (h : PutAt limit out at (spell (split_entry a b ∷ [])) out₁ (Some p)) where
    pub first-over : limit < p + length (spell es) → limit < at + length (spell whole)
    first-over g = omega (arith, h.0, g, long)

    pub sides-laid : (out₂ : List ℕ) (q : ℕ) → q ≡ p + length (spell es) → out₂ ≡ sets out₁ p (spell es) → (from to from' to' from'' to'' : List ℕ) (n k : ℕ) → (branch_of from'' to'' k ≡ branch_of from' to' k → branch_of from'' to'' n ≡ branch_of from to n)
        → (out₃ : List ℕ) (r : std.Option ℕ) → PutKept limit from' to' k out₂ q (spell fs) from'' to'' out₃ r → PutKept limit from to n out at (spell whole) from'' to'' out₃ r
    sides-laid out₂ q c d from to from' to' from'' to'' n k e out₃ (Some z) (u, v, x, y) = (
      omega (arith, u, c, h.0, long),
      v,
      x
          ∙ ap₂ (λ o j. sets o j (spell fs)) (d ∙ ap₂ (λ o j. sets o j (spell es)) h.2 h.0) (c ∙ ap (λ j. j + length (spell es)) h.0)
          ∙ ap (λ o. sets o (at + length (spell (split_entry a b ∷ [])) + length (spell es)) (spell fs)) (sets-join out at (spell (split_entry a b ∷ [])) (spell es))
          ∙ joined
          ∙ ap (sets out at) (sym spelt),
      e y,
    )
      where
        joined : sets (sets out at (spell (split_entry a b ∷ []) ++ spell es)) (at + length (spell (split_entry a b ∷ [])) + length (spell es)) (spell fs) ≡ sets out at (spell (split_entry a b ∷ []) ++ (spell es ++ spell fs))
        joined =
            ap (λ j. sets (sets out at (spell (split_entry a b ∷ []) ++ spell es)) j (spell fs))
            (let q : at + length (spell (split_entry a b ∷ [])) + length (spell es) ≡ at + length (spell (split_entry a b ∷ []) ++ spell es) = omega (arith, length-append (spell (split_entry a b ∷ [])) (spell es)) in q)
            ∙ sets-join out at (spell (split_entry a b ∷ []) ++ spell es) (spell fs)
            ∙ ap (sets out at) (append_assoc (spell (split_entry a b ∷ [])) (spell es) (spell fs))
    sides-laid out₂ q c d from to from' to' from'' to'' n k e out₃ None g = omega (arith, g, c, h.0, long)

-- one side of a split, as the arrays keep it
module _ (t : Trace) (w : So (well_formed t)) (m k : ℕ) (E : List Claim) (from to : List ℕ) (n x y : ℕ) (same : branch_of from to n ≡ E) (l : n < length from) (l' : n < length to) where
  side-named : branch_of (set from n x) (set to n y) (n + 1) ≡ named E x y
  side-named = branch-set from to n x y l l' ∙ ap (λ E. named E x y) same

  pub side-joins : Joins (frame_of t) (inside E) → So ((frame_of t).operation x) → So ((frame_of t).operation y) → Joins (frame_of t) (inside (branch_of (set from n x) (set to n y) (n + 1)))
  side-joins j a b = subst⁻¹ (λ (F : List Claim). Joins (frame_of t) (inside F)) side-named (still-joins (frame_of t) (good t w) (kept_of m t) (kept-joins m t) E x y j a b)

  pub side-closes : Closable (frame_of t) (kept_of m t) k (named E x y) → Closable (frame_of t) (kept_of m t) k (branch_of (set from n x) (set to n y) (n + 1))
  side-closes c = subst⁻¹ (Closable (frame_of t) (kept_of m t) k) side-named c

  pub side-list : (limit : ℕ) (out : List ℕ) (at : ℕ) (from' to' out' : List ℕ) (r : std.Option ℕ)
      → PutKept limit (set from n x) (set to n y) (n + 1) out at (spell (paper_of (frame_of t) (kept_of m t) k (branch_of (set from n x) (set to n y) (n + 1)))) from' to' out' r
      → PutKept limit (set from n x) (set to n y) (n + 1) out at (spell (paper_of (frame_of t) (kept_of m t) k (named E x y))) from' to' out' r
  side-list limit out at from' to' out' r h = subst (λ (F : List Claim). PutKept limit (set from n x) (set to n y) (n + 1) out at (spell (paper_of (frame_of t) (kept_of m t) k F)) from' to' out' r) side-named h

pub kept_at : (limit : ℕ) (from to : List ℕ) (n : ℕ) (out : List ℕ) (at : ℕ) (ws from' to' out' : List ℕ) (r q : std.Option ℕ) → PutKept limit from to n out at ws from' to' out' r → r ≡ q → PutKept limit from to n out at ws from' to' out' q
kept_at limit from to n out at ws from' to' out' r q h e = subst (PutKept limit from to n out at ws from' to' out') e h
