-- What a list of numbers shows, an entry at a time.
--
--   shows-long   == where a branch is left to close, an entry stands whole
--   shows-next   == the list shows it if what follows does what the entry leaves to check
--   shows-wrong, shows-closed, shows-goes == by what taking the entry said
use mathlib.Core.Path.{◌≡◌, refl, sym, ap, ap₂, ◌∙◌}
use mathlib.Core.Logic.{◌↔◌}
use mathlib.Core.Bool.{Bool, So, false≢true}
use mathlib.Core.List.{List, [], ◌∷◌, ◌++◌}
use Prim.Native.Nat.{ℕ, suc, ◌+◌, ◌<◌, ◌≤◌}
use native.Mathlib.Omega.{arith}
use lib.ListN.{length, get_or, take, drop, length-append, length-drop, length-take, take-append-drop, drop_of_length-le}
use lib.Seq.{drop-cons, drop-drop, get_or-drop}
use Rattle.laws.specs.Relation.{Table}
use Rattle.laws.specs.ListOf.{row}
use Rattle.rules.specs.Frame.{Frame}
use Rattle.papers.specs.Paper.{Claim, Entry, BRANCH, spell, refutes}
use Rattle.papers.specs.inner.ReaderBranch.{branch_of, others_of, goals_of, branch_after, went, Taken}
use Rattle.papers.specs.Accepts.{PaperShows}
use Rattle.papers.specs.declared.reading.Turn.{Turn}
use Rattle.papers.specs.declared.reading.Turn.TheVariants.{Goes, Closed, Wrong}

head : (a b : ℕ) (s t : List ℕ) → a ∷ s ≡ b ∷ t → a ≡ b
head a b s t q = ap (λ l. get_or l 0 0) q

tail : (a b : ℕ) (s t : List ℕ) → a ∷ s ≡ b ∷ t → s ≡ t
tail a b s t q = ap (drop 1) q

cancel : (a b c d : List ℕ) → length a ≡ length b → a ++ c ≡ b ++ d → (a ≡ b) × (c ≡ d)
cancel [] [] c d h q = (refl, q)
cancel [] (y ∷ b) c d h q = absurd (omega (arith, h))
cancel (x ∷ a) [] c d h q = absurd (omega (arith, h))
cancel (x ∷ a) (y ∷ b) c d h q =
    let r = cancel a b c d (let n : length a ≡ length b = omega (arith, h) in n) (tail x y (a ++ c) (b ++ d) q) in
    (ap₂ (λ z s. z ∷ s) (head x y (a ++ c) (b ++ d) q) r.0, r.1)

unspell : (e e' : Entry) (l : List ℕ) (es : List Entry)
    → e.rule ∷ e.from ∷ e.to ∷ length e.rests ∷ e.rests ++ l ≡ e'.rule ∷ e'.from ∷ e'.to ∷ length e'.rests ∷ e'.rests ++ spell es
    → (e ≡ e') × (l ≡ spell es)
unspell e e' l es q =
    let q₁ = ap (drop 1) q in
    let q₂ = ap (drop 2) q in
    let q₃ = ap (drop 3) q in
    let c = cancel e.rests e'.rests l (spell es) (ap (λ l. get_or l 3 0) q) (ap (drop 4) q) in (
      ap₂ (λ (p : ℕ × ℕ) (s : ℕ × List ℕ). record { rule = p.0; from = p.1; to = s.0; rests = s.1 })
          (ap₂ (λ a b. (a, b)) (ap (λ l. get_or l 0 0) q) (ap (λ l. get_or l 1 0) q)) (ap₂ (λ a b. (a, b)) (ap (λ l. get_or l 2 0) q) c.0),
      c.1,
    )

module _ (l : List ℕ) (at k : ℕ) where
  abbrev pub entry_at : Entry
  entry_at = record { rule = get_or l at 0; from = get_or l (at + 1) 0; to = get_or l (at + 2) 0; rests = take k (drop (at + 4) l) }

  rests-long : at + 4 + k ≤ length l → length (take k (drop (at + 4) l)) ≡ k
  rests-long h = rw (length-take, length-drop) (omega (arith, h))

  spelled : at + 4 + k ≤ length l → k ≡ get_or l (at + 3) 0
      → drop at l ≡ get_or l at 0 ∷ get_or l (at + 1) 0 ∷ get_or l (at + 2) 0 ∷ length (take k (drop (at + 4) l)) ∷ take k (drop (at + 4) l) ++ drop (at + 4 + k) l
  spelled h q =
      let s : (j : ℕ) → j < at + 4 → drop j l ≡ get_or l j 0 ∷ drop (suc j) l = λ j g. drop-cons l j 0 (omega (arith, h, g)) in
      let n : (i j : ℕ) → i ≡ j → drop i l ≡ drop j l = λ i j e. ap (λ i. drop i l) e in
      s at (omega arith)
      ∙ ap (λ r. get_or l at 0 ∷ r) (n (suc at) (at + 1) (omega arith) ∙ s (at + 1) (omega arith))
      ∙ ap (λ r. get_or l at 0 ∷ get_or l (at + 1) 0 ∷ r) (n (suc (at + 1)) (at + 2) (omega arith) ∙ s (at + 2) (omega arith))
      ∙ ap (λ r. get_or l at 0 ∷ get_or l (at + 1) 0 ∷ get_or l (at + 2) 0 ∷ r) (n (suc (at + 2)) (at + 3) (omega arith) ∙ s (at + 3) (omega arith))
      ∙ ap₂ (λ v r. get_or l at 0 ∷ get_or l (at + 1) 0 ∷ get_or l (at + 2) 0 ∷ v ∷ r) (sym q ∙ sym (rests-long h))
      (n (suc (at + 3)) (at + 4) (omega arith) ∙ sym (take-append-drop k (drop (at + 4) l)) ∙ ap (λ r. take k (drop (at + 4) l) ++ r) (drop-drop k (at + 4) l))

  module _ (f : Frame) (K : Table) (Es : List (List Claim)) (E : List Claim) (h : at + 4 + k ≤ length l) (q : k ≡ get_or l (at + 3) 0)
      (G : List Entry → Bool) (g : (es : List Entry) → refutes f K (E ∷ Es) (entry_at ∷ es) ≡ G es) where
    pub shows-next : PaperShows f K (E ∷ Es) (drop at l) ↔ ((es : List Entry) × (drop (at + 4 + k) l ≡ spell es) × So (G es))
    unfolding spell refutes
    shows-next = (λ s. go s.0 s.1 s.2, λ s. (entry_at ∷ s.0, spelled h q ∙ ap (λ r. get_or l at 0 ∷ get_or l (at + 1) 0 ∷ get_or l (at + 2) 0 ∷ length (take k (drop (at + 4) l)) ∷ take k (drop (at + 4) l) ++ r) s.1, g s.0 ∙ s.2))
      where
        go : (es : List Entry) → drop at l ≡ spell es → So (refutes f K (E ∷ Es) es) → (es : List Entry) × (drop (at + 4 + k) l ≡ spell es) × So (G es)
        go [] d t = absurd (false≢true t)
        go (e ∷ es) d t =
            let u = unspell entry_at e (drop (at + 4 + k) l) es (sym (spelled h q) ∙ d) in
            (es, u.1, sym (g es) ∙ ap (λ e. refutes f K (E ∷ Es) (e ∷ es)) u.0 ∙ t)

pub as-entry : (l : List ℕ) (at k r m : ℕ) → r ≡ get_or l at 0 → m ≡ k
    → ◌≡◌ {A = Entry} (record { rule = r; from = get_or l (at + 1) 0; to = get_or l (at + 2) 0; rests = take m (drop (at + 4) l) }) (entry_at l at k)
as-entry l at k r m p q = ap₂ (λ r m. record { rule = r; from = get_or l (at + 1) 0; to = get_or l (at + 2) 0; rests = take m (drop (at + 4) l) }) p q

pub shows-long : (f : Frame) (K : Table) (E : List Claim) (Es : List (List Claim)) (l : List ℕ) (at : ℕ) → PaperShows f K (E ∷ Es) (drop at l) → at + 4 + get_or l (at + 3) 0 ≤ length l
unfolding spell refutes
shows-long f K E Es l at s = go s.0 s.1 s.2
  where
    go : (es : List Entry) → drop at l ≡ spell es → So (refutes f K (E ∷ Es) es) → at + 4 + get_or l (at + 3) 0 ≤ length l
    go [] d t = absurd (false≢true t)
    go (e ∷ es) d t =
        let a : length (drop at l) ≡ suc (suc (suc (suc (length (e.rests ++ spell es))))) = ap length d in
        let b : get_or (drop at l) 3 0 ≡ length e.rests = ap (λ l. get_or l 3 0) d in
        omega (arith, a, b, length-append e.rests (spell es), length-drop at l, get_or-drop at l 3 0)

module _ (f : Frame) (K : Table) (l : List ℕ) (at k : ℕ) (h : at + 4 + k ≤ length l) (q : k ≡ get_or l (at + 3) 0) (from to other from' to' other' : List ℕ) (n : ℕ) (r : Turn)
    (T : Taken f K from to other n (entry_at l at k) r from' to' other') where
  next : PaperShows f K (goals_of from to other n) (drop at l) ↔ ((es : List Entry) × (drop (at + 4 + k) l ≡ spell es) × So (branch_after f K r from' to' other' es))
  next = shows-next l at k f K _ _ h q (branch_after f K r from' to' other') T.rest

  pub shows-goes : (m : ℕ) → r ≡ Goes m → PaperShows f K (goals_of from to other n) (drop at l) ↔ PaperShows f K (goals_of from' to' other' m) (drop (at + 4 + k) l)
  unfolding branch_after
  shows-goes m e = (
    λ s. let u = next.0 s in (u.0, u.1, ap (λ r. branch_after f K r from' to' other' u.0) (sym e) ∙ u.2),
    λ u. next.1 (u.0, u.1, ap (λ r. branch_after f K r from' to' other' u.0) e ∙ u.2),
  )

  pub shows-wrong : r ≡ Wrong → PaperShows f K (goals_of from to other n) (drop at l) → ⊥
  unfolding branch_after
  shows-wrong e s = let u = next.0 s in false≢true (ap (λ r. branch_after f K r from' to' other' u.0) (sym e) ∙ u.2)

  pub shows-closed : r ≡ Closed → PaperShows f K (goals_of from to other n) (drop at l) ↔ (at + 4 + k ≡ length l)
  unfolding branch_after refutes spell
  shows-closed e = (
    λ s. let u = next.0 s in go u.0 u.1 (ap (λ r. branch_after f K r from' to' other' u.0) (sym e) ∙ u.2),
    λ z. next.1 ([], drop_of_length-le l (let w : length l ≤ at + 4 + k = omega (arith, z) in w), ap (λ r. branch_after f K r from' to' other' []) e),
  )
    where
      go : (es : List Entry) → drop (at + 4 + k) l ≡ spell es → So (refutes f K [] es) → at + 4 + k ≡ length l
      go [] d t = let a : length (drop (at + 4 + k) l) ≡ 0 = ap length d in omega (arith, a, length-drop (at + 4 + k) l, h)
      go (x ∷ es) d t = absurd (false≢true t)

  pub went-short : (m : ℕ) → r ≡ Goes m → m ≤ BRANCH
  unfolding went
  went-short m e = let z : m ≡ went r = ap went (sym e) in omega (arith, z, T.short)

pub goals-none : (from to other : List ℕ) → goals_of from to other 0 ≡ [] ∷ []
unfolding branch_of row others_of
goals-none from to other = refl
