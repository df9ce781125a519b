-- The edges of a way told one after the other, as a loop does it.
--
--   told-join  == first some entries, and then others, whether there is room for these or not
--   Along      == the first i edges of the way are told
--   along-start, along-on, along-end == so it is before the first edge, and after one more; the last one ends the way
--   along-over == there is no room for one of them
use mathlib.Core.Path.{◌≡◌, refl, sym, ap, ◌∙◌, subst}
use mathlib.Core.List.{List, [], ◌++◌, append_assoc}
use Prim.Native.Nat.{ℕ, ◌+◌, ◌<◌, ◌≤◌}
use native.Mathlib.Omega.{arith}
use lib.ListN.{length, get_or, take, drop, drop_of_length-le}
use lib.Seq.{length-take-le}
use Rattle.papers.specs.Paper.{BRANCH, Claim, Entry}
use Rattle.papers.specs.inner.ReaderBranch.{branch_of}
use Rattle.reasons.specs.Telling.{edges_of, along}
use Rattle.reasons.specs.inner.Laid.{Done, EntriesTold}
use Rattle.std.specs.Prelude.{Option, Some, None}
use Rattle.reasons.proofs.Laying.{left}
use Rattle.reasons.proofs.Joining.{told_none, done-join, over_first, over-then}

module _ (limit : ℕ) (from to out : List ℕ) (n at : ℕ) where
  pub told-join : (es fs : List Entry) (from₁ to₁ out₁ : List ℕ) (m p : ℕ) → Done limit from to out n at es from₁ to₁ out₁ m p → (from₂ to₂ out₂ : List ℕ) (r : Option (ℕ × ℕ))
      → EntriesTold limit from₁ to₁ out₁ m p fs from₂ to₂ out₂ r → EntriesTold limit from to out n at (es ++ fs) from₂ to₂ out₂ r
  told-join es fs from₁ to₁ out₁ m p d from₂ to₂ out₂ (Some (k, q)) e = done-join limit from to out n at es fs from₁ to₁ out₁ m p d from₂ to₂ out₂ k q e
  told-join es fs from₁ to₁ out₁ m p d from₂ to₂ out₂ None h = over-then limit from to out n at es fs from₁ to₁ out₁ m p d h

  -- the way leads from a by the steps to b
  module _ (tell : List Claim → ℕ → ℕ → List Entry) (a : ℕ) (steps : List ℕ) (len b : ℕ) where
    abbrev whole : List Entry
    whole = along tell (branch_of from to n) a (take len steps) b

    -- the way goes on from x, at place i
    pub record Along (i x : ℕ) (from' to' out' : List ℕ) (m p : ℕ) : Type 0 where
      pub told : List Entry
      pub done : Done limit from to out n at told from' to' out' m p
      pub rest : told ++ along tell (branch_of from' to' m) x (drop i (take len steps)) b ≡ whole

    pub along-start : n ≤ BRANCH → at ≤ limit → Along 0 a from to out n at
    along-start s l = record { told = []; done = told_none limit from to out n at s l; rest = refl }

    module _ (fits : len ≤ length steps) (i x : ℕ) (from₁ to₁ out₁ : List ℕ) (m p : ℕ) (w : Along i x from₁ to₁ out₁ m p) (from₂ to₂ out₂ : List ℕ) where
      abbrev one : ℕ → List Entry
      one z = tell (branch_of from₁ to₁ m) x z

      abbrev on : ℕ → List Claim
      on z = branch_of from₁ to₁ m ++ edges_of (one z)

      -- the next edge, and those after it
      split : i < len → w.told ++ (one (get_or steps i 0) ++ along tell (on (get_or steps i 0)) (get_or steps i 0) (drop (i + 1) (take len steps)) b) ≡ whole
      unfolding along
      split h = ap (λ zs. w.told ++ along tell (branch_of from₁ to₁ m) x zs b) (sym (left steps len fits i h)) ∙ w.rest

      pub along-on : i < len → (k q : ℕ) → Done limit from₁ to₁ out₁ m p (one (get_or steps i 0)) from₂ to₂ out₂ k q → Along (i + 1) (get_or steps i 0) from₂ to₂ out₂ k q
      along-on h k q e = record {
        told = w.told ++ one (get_or steps i 0);
        done = done-join limit from to out n at w.told (one (get_or steps i 0)) from₁ to₁ out₁ m p w.done from₂ to₂ out₂ k q e;
        rest =
            ap (λ B. (w.told ++ one (get_or steps i 0)) ++ along tell B (get_or steps i 0) (drop (i + 1) (take len steps)) b) e.branch
            ∙ append_assoc w.told (one (get_or steps i 0)) (along tell (on (get_or steps i 0)) (get_or steps i 0) (drop (i + 1) (take len steps)) b)
            ∙ split h;
      }

      pub along-over : i < len → EntriesTold limit from₁ to₁ out₁ m p (one (get_or steps i 0)) from₂ to₂ out₂ None → EntriesTold limit from to out n at whole from₂ to₂ out₂ None
      along-over h e =
          subst (λ (es : List Entry). EntriesTold limit from to out n at es from₂ to₂ out₂ None) (split h)
          (told-join w.told (one (get_or steps i 0) ++ more) from₁ to₁ out₁ m p w.done from₂ to₂ out₂ None (over_first limit from₁ to₁ out₁ m p (one (get_or steps i 0)) more e))
        where
          more : List Entry
          more = along tell (on (get_or steps i 0)) (get_or steps i 0) (drop (i + 1) (take len steps)) b

      pub along-end : len ≤ i → (r : Option (ℕ × ℕ)) → EntriesTold limit from₁ to₁ out₁ m p (one b) from₂ to₂ out₂ r → EntriesTold limit from to out n at whole from₂ to₂ out₂ r
      unfolding along
      along-end h r e =
          let l : length (take len steps) ≤ i = omega (arith, length-take-le len steps fits) in
          let z : drop i (take len steps) ≡ [] = drop_of_length-le (take len steps) l in
          subst (λ (es : List Entry). EntriesTold limit from to out n at es from₂ to₂ out₂ r) (ap (λ zs. w.told ++ along tell (branch_of from₁ to₁ m) x zs b) (sym z) ∙ w.rest)
          (told-join w.told (one b) from₁ to₁ out₁ m p w.done from₂ to₂ out₂ r e)
