-- Entries told one after the other.
--
--   spell-append, spell-long == the numbers of two lists of entries, and how many they are
--   told_none    == nothing was told
--   done-join    == first some entries, and then others
--   over_first, over-then == no room for the first, or for what follows
--   told-on, told_over    == what was told, where the answer is known
use mathlib.Core.Path.{◌≡◌, refl, sym, ap, ap₂, ◌∙◌, subst}
use mathlib.Core.Logic.{◌⊎◌, inl, inr}
use mathlib.Core.List.{List, [], ◌∷◌, ◌++◌, append_assoc, append-nil}
use Prim.Native.Nat.{ℕ, ◌+◌, ◌<◌, ◌≤◌}
use native.Mathlib.Nat.{add-zero}
use native.Mathlib.Omega.{arith}
use lib.ListN.{length, length-append}
use lib.Seq.{sets}
use Rattle.papers.specs.Paper.{BRANCH, Entry, spell}
use Rattle.papers.specs.inner.ReaderBranch.{branch_of}
use Rattle.reasons.specs.Telling.{edges_of}
use Rattle.reasons.specs.inner.Laid.{Done, EntriesTold}
use Rattle.std.specs.Prelude.{Option, Some, None}
use Rattle.reasons.proofs.Places.{sets-join}
use Rattle.reasons.proofs.Telling.{edges-append}

pub spell-append : (es fs : List Entry) → spell (es ++ fs) ≡ spell es ++ spell fs
unfolding spell
spell-append [] fs = refl
spell-append (e ∷ es) fs =
    ap (λ l. e.rule ∷ e.from ∷ e.to ∷ length e.rests ∷ l) (ap (λ l. e.rests ++ l) (spell-append es fs) ∙ sym (append_assoc e.rests (spell es) (spell fs)))

pub spell-long : (es fs : List Entry) → length (spell (es ++ fs)) ≡ length (spell es) + length (spell fs)
spell-long es fs = ap length (spell-append es fs) ∙ length-append (spell es) (spell fs)

module _ (limit : ℕ) (from to out : List ℕ) (n at : ℕ) where
  pub told_none : n ≤ BRANCH → at ≤ limit → EntriesTold limit from to out n at [] from to out (Some (n, at))
  unfolding edges_of spell
  told_none s l = record {
    counted = sym (add-zero n);
    placed = sym (add-zero at);
    small = s;
    fits = l;
    branch = sym (append-nil (branch_of from to n));
    laid = refl;
  }

  pub told-on : (es : List Entry) (from' to' out' : List ℕ) (r : Option (ℕ × ℕ)) (m p : ℕ) → EntriesTold limit from to out n at es from' to' out' r → r ≡ Some (m, p) → Done limit from to out n at es from' to' out' m p
  told-on es from' to' out' r m p h e = subst (EntriesTold limit from to out n at es from' to' out') e h

  pub told_over : (es : List Entry) (from' to' out' : List ℕ) (r : Option (ℕ × ℕ)) → EntriesTold limit from to out n at es from' to' out' r → r ≡ None → (limit < at + length (spell es)) ⊎ (BRANCH < n + length es)
  told_over es from' to' out' r h e = subst (EntriesTold limit from to out n at es from' to' out') e h

  pub over_first : (es fs : List Entry) → (limit < at + length (spell es)) ⊎ (BRANCH < n + length es) → (limit < at + length (spell (es ++ fs))) ⊎ (BRANCH < n + length (es ++ fs))
  over_first es fs (inl h) = inl (omega (arith, h, spell-long es fs))
  over_first es fs (inr h) = inr (omega (arith, h, length-append es fs))

  module _ (es fs : List Entry) (from₁ to₁ out₁ : List ℕ) (m p : ℕ) (d : Done limit from to out n at es from₁ to₁ out₁ m p) where
    pub over-then : (limit < p + length (spell fs)) ⊎ (BRANCH < m + length fs) → (limit < at + length (spell (es ++ fs))) ⊎ (BRANCH < n + length (es ++ fs))
    over-then (inl h) = inl (omega (arith, h, d.placed, spell-long es fs))
    over-then (inr h) = inr (omega (arith, h, d.counted, length-append es fs))

    pub done-join : (from₂ to₂ out₂ : List ℕ) (k q : ℕ) → Done limit from₁ to₁ out₁ m p fs from₂ to₂ out₂ k q → Done limit from to out n at (es ++ fs) from₂ to₂ out₂ k q
    done-join from₂ to₂ out₂ k q e = record {
      counted = omega (arith, d.counted, e.counted, length-append es fs);
      placed = omega (arith, d.placed, e.placed, spell-long es fs);
      small = e.small;
      fits = e.fits;
      branch = e.branch ∙ ap (λ E. E ++ edges_of fs) d.branch ∙ append_assoc (branch_of from to n) (edges_of es) (edges_of fs) ∙ ap (λ F. branch_of from to n ++ F) (sym (edges-append es fs));
      laid =
          e.laid
          ∙ ap₂ (λ o j. sets o j (spell fs)) d.laid d.placed
          ∙ sets-join out at (spell es) (spell fs)
          ∙ ap (sets out at) (sym (spell-append es fs));
    }
