-- The judge's answer: which condition fails first, with the lowest place or records, and yes exactly for the valid orders.
--
--   each-once     == a list of all operations' length with operations only and none twice has each of them once
--   judged-judges == the answer says what is so
--   judges-judged == and what is so is the answer
--   judged-iff    == an answer is given exactly where what it says is so
--   judged-yes    == so yes is given exactly for a valid order
--   accepted-yes  == and for any trace and model: exactly for a valid order of a well formed trace under a model that exists
--   judged-nine, judged-ten == a model that does not exist, then a trace that is not well formed, is told first and in no other case
use mathlib.Core.Path.{◌≡◌, refl, sym, ap, ◌∙◌, subst}
use mathlib.Core.Logic.{inl, inr, ◌↔◌}
use mathlib.Core.Bool.{true, false, cond, So, false≢true}
use mathlib.Core.List.{List}
use mathlib.Core.Option.{Option, none, some}
use Prim.Native.Nat.{ℕ, ◌≤◌, ◌<◌}
use native.Mathlib.Omega.{arith}
use borrow.Author.Tests.{ltb-false, ne_eqb}
use lib.Dec.{eqb, ltb}
use lib.ListN.{length, get_or}
use Rattle.std.specs.Prelude.{Result, Ok, Err}
use Rattle.laws.specs.Places.{pos, count}
use Rattle.laws.specs.Relation.{Table}
use Rattle.laws.specs.Lowest.{Lowest, lowest}
use Rattle.laws.specs.Sums.{sum}
use Rattle.laws.proofs.Tests.{test, and-iff, not_iff, same-iff, so-eq, so-lt, any-iff, eq?}
use Rattle.laws.proofs.Lowest.{lowest-one, lowest-iff}
use Rattle.laws.proofs.Sums.{sum_same, sum-cong}
use Rattle.laws.proofs.Places.{pos-lt, at-pos, count_at}
use Rattle.laws.proofs.Counts.{count-sum}
use Rattle.rules.specs.Frame.{Frame, Good}
use Rattle.rules.specs.Order.{Sees, Keeps, Once, Valid}
use Rattle.trace.specs.WellFormed.{well_formed}
use Rattle.trace.specs.Meaning.{frame_of}
use Rattle.trace.specs.declared.Trace.{Trace}
use Rattle.trace.proofs.Good.{good}
use Rattle.rules.specs.Rules.{InRecords}
use Rattle.pairs.specs.Kept.{modelled, kept_of}
use Rattle.rules.specs.Ready.{operations}
use Rattle.rules.specs.Seen.{seen}
use Rattle.pairs.specs.Accepted.{Accepted}
use Rattle.judge.specs.Judged.{bad?, twice?, out?, early?, wrong?, pair_of, first_failing, turns_by, judged_by, judged_of}
use Rattle.judge.specs.Judges.{Bad, Twice, Out, Early, WrongRead, Judges}
use Rattle.judge.specs.declared.judging.Broken.{Broken}
use Rattle.judge.specs.declared.judging.Broken.TheVariants.{NoModel, NotWellFormed, WrongLength, BadNumber, Repeat, OutOfTurn, WrongValue}
use Rattle.pairs.proofs.ValidOrders.{well-kept}
use Rattle.rules.proofs.Seen.{at_most_one, operation-there, sees-one, seen-sees}
use Rattle.judge.proofs.JudgeAnswers.{length-told, number-told, repeat-told, turns-told, nine-told, ten-told, judged-told}

module _ (f : Frame) (g : Good f) (xs : List ℕ) where
  pub each-once : length xs ≡ operations f → ((i : ℕ) → i < length xs → So (f.operation (get_or xs i 0))) → ((x : ℕ) → x < f.records → count x xs ≤ 1) → Once f xs
  unfolding operations
  each-once long ops few x = elim (test (f.operation x)) [
    | inl t ↦ rw t (let h = g.below x t in omega (arith, few x h, rw t at (sum_same f.records (λ x. count x xs) (λ x. cond (f.operation x) 1 0) below total x h)))
    | inr t ↦ rw t (none-there x t)
  ]
    where
      there : (x : ℕ) → 0 < count x xs → So (f.operation x)
      there x h = let l = pos-lt xs x h in subst (λ (y : ℕ). So (f.operation y)) (at-pos xs x l) (ops (pos xs x) l)

      none-there : (x : ℕ) → f.operation x ≡ false → count x xs ≡ 0
      none-there x t = elim (eq? (count x xs) 0) [ inl e ↦ e | inr d ↦ absurd (false≢true (sym t ∙ there x (omega arith))) ]

      below : (x : ℕ) → x < f.records → count x xs ≤ cond (f.operation x) 1 0
      below x h = elim (test (f.operation x)) [ inl t ↦ rw t (few x h) | inr t ↦ rw t (omega (arith, none-there x t)) ]

      total : sum f.records (λ x. cond (f.operation x) 1 0) ≤ sum f.records (λ x. count x xs)
      total = omega (arith, count-sum f.records xs (λ x h. g.below x (there x h)), long)

  pub once-long : Once f xs → length xs ≡ operations f
  unfolding operations
  once-long o = sym (count-sum f.records xs (λ x h. g.below x (operation-there f xs o x h))) ∙ sum-cong f.records _ _ (λ x _. o x)

module _ (f : Frame) (g : Good f) (K : Table) (rows : InRecords f K) (xs : List ℕ) where
  -- what the searches find
  bads : Lowest (Bad f xs) (lowest (bad? f xs) (length xs) 0)
  unfolding bad?
  bads = lowest-iff (bad? f xs) (Bad f xs) (length xs) (λ i h. (λ u. (h, (not_iff same-iff).0 u), λ p. (not_iff same-iff).1 p.1)) (λ i p. p.0) (length xs) 0 (omega arith) (λ i p. omega arith)

  -- where all are operations, what stands in the list is a record
  twices : Lowest (Bad f xs) none → Lowest (Twice xs) (lowest (twice? xs) f.records 0)
  unfolding twice?
  twices b = lowest-iff (twice? xs) (Twice xs) f.records (λ x h. so-lt) (λ x h. g.below x (there x h)) f.records 0 (omega arith) (λ x h. omega arith)
    where
      there : (x : ℕ) → 1 < count x xs → So (f.operation x)
      there x h = let l = pos-lt xs x (omega arith) in subst (λ (y : ℕ). So (f.operation y)) (at-pos xs x l) (all_there (pos xs x) l)
        where
          all_there : (i : ℕ) → i < length xs → So (f.operation (get_or xs i 0))
          all_there i l = elim (test (f.operation (get_or xs i 0))) [ inl t ↦ t | inr t ↦ absurd (b i (l, λ u. false≢true (sym t ∙ u))) ]

  out-iff : (x y : ℕ) → So (out? K xs x y) ↔ Out K xs x y
  unfolding out?
  out-iff x y = and-iff same-iff (not_iff so-lt)

  outs : (x : ℕ) → Lowest (Out K xs x) (lowest (out? K xs x) f.records 0)
  outs x = lowest-iff (out? K xs x) (Out K xs x) f.records (λ y h. out-iff x y) (λ y p. (rows x y p.0).1) f.records 0 (omega arith) (λ y p. omega arith)

  earlies : Lowest (Early K xs) (lowest (early? K f.records xs) f.records 0)
  unfolding early?
  earlies =
      lowest-iff (early? K f.records xs) (Early K xs) f.records
      (λ x h. let i = any-iff (out-iff x) in (λ u. let (y, l, p) = i.0 u in (y, p), λ p. i.1 (p.0, (rows x p.0 p.1.0).1, p.1)))
      (λ x p. (rows x p.0 p.1.0).0) f.records 0 (omega arith) (λ x p. omega arith)

  wrongs : Once f xs → Lowest (WrongRead f xs) (lowest (wrong? f xs) f.records 0)
  unfolding wrong?
  wrongs o =
      lowest-iff (wrong? f xs) (WrongRead f xs) f.records (λ L h. and-iff same-iff (not_iff (sees L))) (λ L p. g.below L (g.reads L p.0)) f.records 0 (omega arith) (λ L p. omega arith)
    where
      sees : (L : ℕ) → So (eqb (f.read L) (seen f xs L)) ↔ Sees f xs L (f.read L)
      sees L = (λ u. let e : f.read L ≡ seen f xs L = so-eq.0 u in rw e (seen-sees f xs o g L), λ v. so-eq.1 (sees-one f xs o g L _ _ v (seen-sees f xs o g L)))

  -- where nothing is out of turn, or wrong
  in-turn : Lowest (Early K xs) none → Keeps K xs
  in-turn l x y k = elim (test (ltb (pos xs x) (pos xs y))) [ inl t ↦ so-lt.0 t | inr t ↦ absurd (l x (y, (k, λ b. false≢true (sym t ∙ so-lt.1 b)))) ]

  right : Once f xs → Lowest (WrongRead f xs) none → (L : ℕ) → So (f.reads L) → Sees f xs L (f.read L)
  right o l L r = elim (eq? (f.read L) (seen f xs L)) [
    | inl e ↦ rw e (seen-sees f xs o g L)
    | inr d ↦ absurd (l L (r, λ v. d (sees-one f xs o g L _ _ v (seen-sees f xs o g L))))
  ]

  -- from condition to condition
  at-values : (o : Option ℕ) → Lowest (WrongRead f xs) o → Lowest (Early K xs) none → Once f xs → Judges f K xs (first_failing true none none none (λ x. lowest (out? K xs x) f.records 0) o)
  at-values (some L) l e o = (o, in-turn e, l)
  at-values none l e o = record { all = o; kept = in-turn e; value = right o l }

  at_pair : (x : ℕ) (o : Option ℕ) → Lowest (Out K xs x) o → Lowest (Early K xs) (some x) → Once f xs → Judges f K xs (pair_of x o)
  at_pair x (some y) l e o = (o, e, l)
  at_pair x none l e o = absurd (l e.0.0 e.0.1)

  at-turns : (o : Option ℕ) → Lowest (Early K xs) o → Once f xs
      → Judges f K xs (first_failing true none none o (λ x. lowest (out? K xs x) f.records 0) (lowest (wrong? f xs) f.records 0))
  at-turns (some x) l o = at_pair x (lowest (out? K xs x) f.records 0) (outs x) l o
  at-turns none l o = at-values (lowest (wrong? f xs) f.records 0) (wrongs o) l o

  at-repeats : (o : Option ℕ) → Lowest (Twice xs) o → Lowest (Bad f xs) none → length xs ≡ operations f
      → Judges f K xs (first_failing true none o (lowest (early? K f.records xs) f.records 0) (λ x. lowest (out? K xs x) f.records 0) (lowest (wrong? f xs) f.records 0))
  at-repeats (some x) l b e = (e, b, l)
  at-repeats none l b e = at-turns (lowest (early? K f.records xs) f.records 0) earlies (each-once f g xs e operation few)
    where
      operation : (i : ℕ) → i < length xs → So (f.operation (get_or xs i 0))
      operation i h = elim (test (f.operation (get_or xs i 0))) [ inl t ↦ t | inr t ↦ absurd (b i (h, λ u. false≢true (sym t ∙ u))) ]

      few : (x : ℕ) → x < f.records → count x xs ≤ 1
      few x h = elim (test (ltb 1 (count x xs))) [ inl t ↦ absurd (l x (so-lt.0 t)) | inr t ↦ omega (arith, ltb-false 1 (count x xs) t) ]

  at-numbers : (o : Option ℕ) → Lowest (Bad f xs) o → length xs ≡ operations f
      → Judges f K xs (first_failing true o (lowest (twice? xs) f.records 0) (lowest (early? K f.records xs) f.records 0) (λ x. lowest (out? K xs x) f.records 0) (lowest (wrong? f xs) f.records 0))
  at-numbers (some i) l e = (e, l)
  at-numbers none l e = at-repeats (lowest (twice? xs) f.records 0) (twices l) l e

  pub judged-judges : Judges f K xs (judged_by f K xs)
  unfolding judged_by
  judged-judges = elim (test (eqb (length xs) (operations f))) [
    | inl t ↦ rw t (at-numbers (lowest (bad? f xs) (length xs) 0) bads (so-eq.0 t))
    | inr t ↦ rw t (λ e. false≢true (sym t ∙ so-eq.1 e))
  ]

  -- a list that has each operation once passes the first conditions
  numbers : Once f xs → Lowest (Bad f xs) none
  numbers o i p = p.1 (operation-there f xs o (get_or xs i 0) (count_at xs i p.0))

  turns : Once f xs → turns_by f K xs ≡ judged_by f K xs
  turns o =
      turns-told f K xs (so-eq.1 (once-long f g xs o)) (lowest-one (Bad f xs) _ none bads (numbers o))
      (lowest-one (Twice xs) _ none (twices (numbers o)) (λ x h. omega (arith, at_most_one f xs o x)))

  -- a list that keeps the pairs has none that begins one out of turn
  kept : Keeps K xs → lowest (early? K f.records xs) f.records 0 ≡ none
  kept k = lowest-one (Early K xs) _ none earlies (λ x p. p.1.1 (k x p.0 p.1.0))

  -- the lowest record that begins one, the lowest second one, and the lowest wrong value or none
  begun : (x : ℕ) → Lowest (Early K xs) (some x) → lowest (early? K f.records xs) f.records 0 ≡ some x
  begun x e = lowest-one (Early K xs) _ (some x) earlies e

  paired : (x y : ℕ) → Lowest (Out K xs x) (some y) → lowest (out? K xs x) f.records 0 ≡ some y
  paired x y l = lowest-one (Out K xs x) _ (some y) (outs x) l

  misread : Once f xs → (v : Option ℕ) → Lowest (WrongRead f xs) v → lowest (wrong? f xs) f.records 0 ≡ v
  misread o v l = lowest-one (WrongRead f xs) _ v (wrongs o) l

  pub judges-judged : (j : Result Unit Broken) → Judges f K xs j → judged_by f K xs ≡ j
  unfolding turns_by
  judges-judged (Ok tt) v = sym (turns v.all) ∙ rw (kept v.kept, misread v.all none (λ L p. p.1 (v.value L p.0))) refl
  judges-judged (Err NoModel) p = absurd p
  judges-judged (Err NotWellFormed) p = absurd p
  judges-judged (Err WrongLength) d = sym (length-told f K xs (ne_eqb _ _ d))
  judges-judged (Err (BadNumber i)) (e, l) = sym (number-told f K xs (so-eq.1 e) i (lowest-one (Bad f xs) _ (some i) bads l))
  judges-judged (Err (Repeat x)) (e, b, l) =
      sym (repeat-told f K xs (so-eq.1 e) (lowest-one (Bad f xs) _ none bads b) x (lowest-one (Twice xs) _ (some x) (twices b) l))
  judges-judged (Err (OutOfTurn x y)) (o, e, l) = sym (turns o) ∙ rw (begun x e) (ap (pair_of x) (paired x y l))
  judges-judged (Err (WrongValue L)) (o, k, l) = sym (turns o) ∙ rw (kept k, misread o (some L) l) refl

  pub judged-iff : (j : Result Unit Broken) → (judged_by f K xs ≡ j) ↔ Judges f K xs j
  judged-iff j = (λ e. subst (Judges f K xs) e judged-judges, judges-judged j)

  pub judged-yes : (judged_by f K xs ≡ Ok tt) ↔ Valid f K xs
  judged-yes = judged-iff (Ok tt)

module _ (t : Trace) (m : ℕ) (xs : List ℕ) where
  -- the answer where there is something to judge
  asked : So (modelled m) → So (well_formed t) → judged_of t m xs ≡ judged_by (frame_of t) (kept_of m t) xs
  asked k w = sym (judged-told t m xs k w)

  -- which is none of the first two
  judging : (j : Result Unit Broken) → (Judges (frame_of t) (kept_of m t) xs j → ⊥) → So (modelled m) → So (well_formed t) → judged_of t m xs ≡ j → ⊥
  judging j n k w e = n ((judged-iff (frame_of t) (good t w) (kept_of m t) (well-kept t w m) xs j).0 (sym (asked k w) ∙ e))

  pub accepted-yes : (judged_of t m xs ≡ Ok tt) ↔ Accepted t m xs
  accepted-yes = (there, back)
    where
      there : judged_of t m xs ≡ Ok tt → Accepted t m xs
      there e = elim (test (modelled m)) [
        | inr k ↦ let z : ◌≡◌ {A = ℕ} 0 1 = cc (nine-told t m xs k) in absurd (omega arith)
        | inl k ↦ elim (test (well_formed t)) [
          | inr w ↦ let z : ◌≡◌ {A = ℕ} 0 1 = cc (ten-told t m xs k w) in absurd (omega arith)
          | inl w ↦ record { well = w; model = k; valid = (judged-yes (frame_of t) (good t w) (kept_of m t) (well-kept t w m) xs).0 (sym (asked k w) ∙ e) }
        ]
      ]

      back : Accepted t m xs → judged_of t m xs ≡ Ok tt
      back a = asked a.model a.well ∙ (judged-yes (frame_of t) (good t a.well) (kept_of m t) (well-kept t a.well m) xs).1 a.valid

  pub judged-nine : (judged_of t m xs ≡ Err NoModel) ↔ (modelled m ≡ false)
  judged-nine = (there, λ k. sym (nine-told t m xs k))
    where
      there : judged_of t m xs ≡ Err NoModel → modelled m ≡ false
      there e = elim (test (modelled m)) [
        | inr k ↦ k
        | inl k ↦ elim (test (well_formed t)) [
          | inr w ↦ let z : ◌≡◌ {A = ℕ} 0 1 = cc (ten-told t m xs k w) in absurd (omega arith)
          | inl w ↦ absurd (judging (Err NoModel) (λ n. n) k w e)
        ]
      ]

  pub judged-ten : (judged_of t m xs ≡ Err NotWellFormed) ↔ (So (modelled m) × (well_formed t ≡ false))
  judged-ten = (there, λ p. sym (ten-told t m xs p.0 p.1))
    where
      there : judged_of t m xs ≡ Err NotWellFormed → So (modelled m) × (well_formed t ≡ false)
      there e = elim (test (modelled m)) [
        | inr k ↦ let z : ◌≡◌ {A = ℕ} 0 1 = cc (nine-told t m xs k) in absurd (omega arith)
        | inl k ↦ elim (test (well_formed t)) [ inr w ↦ (k, w) | inl w ↦ absurd (judging (Err NotWellFormed) (λ n. n) k w e) ]
      ]
