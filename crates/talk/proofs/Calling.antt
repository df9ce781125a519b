-- The call of a line is the first whose template gives it.
--
--   Makes make == a maker of calls looks at its places only, one number after another
--   suppose-makes, ask-makes, model-makes, back-makes, waiting-makes == the makers of the five calls
--   call-taken == a template that gives the line makes the call
--   call-left  == one that does not leaves the line to the others
--   fit-told, fit-untold == what `is_some` says of a template that takes no numbers
use mathlib.Core.Path.{◌≡◌, refl, sym, ap, ◌∙◌}
use mathlib.Core.Bool.{true, false, false≢true}
use mathlib.Core.List.{List, []}
use Prim.Native.Nat.{ℕ, ◌<◌}
use native.Mathlib.Omega.{arith}
use lib.ListN.{get_or, replicate}
use Rattle.std.specs.Prelude.{Option, Some, None, unwrap_or, is_some}
use Rattle.text.specs.Number.{cut}
use Rattle.text.specs.Template.{NUMBERS, Hit, hit, miss, found, fit_from, fitted}
use Rattle.text.proofs.Fits.{number_is}
use Rattle.talk.specs.Command.{or_command, cut_command, suppose_from, ask_from, model_from, back_from, waiting_from}
use Rattle.talk.specs.declared.asking.Command.{Command}

unfoldable pub Makes : (List ℕ → Command) → Type 0
Makes make = (ns ms : List ℕ) → ((i : ℕ) → i < NUMBERS → get_or ms i 0 ≡ cut (get_or ns i 0)) → make ms ≡ cut_command (make ns)

pub suppose-makes : Makes suppose_from
unfolding Makes
suppose-makes ns ms h = rw (h 0 (omega arith), h 1 (omega arith))

pub ask-makes : Makes ask_from
unfolding Makes
ask-makes ns ms h = rw (h 0 (omega arith), h 1 (omega arith))

pub model-makes : Makes model_from
unfolding Makes
model-makes ns ms h = rw (h 0 (omega arith))

pub back-makes : Makes back_from
unfolding Makes
back-makes ns ms h = refl

pub waiting-makes : Makes waiting_from
unfolding Makes
waiting-makes ns ms h = refl

module _ (ts line : List ℕ) (make : List ℕ → Command) (other : Command) where
  pub call-taken : (places : List ℕ) → Makes make → Some places ≡ fitted ts line → make places ≡ cut_command (or_command (found ts line) make other)
  unfolding Makes fitted
  call-taken places m e = go (found ts line) e
    where
      go : (f : Hit) → Some places ≡ fit_from 0 (replicate NUMBERS 0) f → make places ≡ cut_command (or_command f make other)
      go (hit ns) q = m ns places (λ i b. ap (λ (r : Option (List ℕ)). get_or (unwrap_or r []) i 0) q ∙ number_is ns i b)
      go miss q = let z : ◌≡◌ {A = ℕ} 0 1 = cc in absurd (omega arith)

  pub call-left : None ≡ fitted ts line → other ≡ or_command (found ts line) make other
  unfolding fitted
  call-left e = go (found ts line) e
    where
      go : (f : Hit) → None ≡ fit_from 0 (replicate NUMBERS 0) f → other ≡ or_command f make other
      go (hit ns) q = let z : ◌≡◌ {A = ℕ} 0 1 = cc in absurd (omega arith)
      go miss q = refl

pub fit-told : (r : Option (List ℕ)) → is_some r ≡ true → (places : List ℕ) × (Some places ≡ r)
fit-told (Some places) e = (places, refl)
fit-told None e = absurd (false≢true e)

pub fit-untold : (r : Option (List ℕ)) → is_some r ≡ false → None ≡ r
fit-untold (Some places) e = absurd (false≢true (sym e))
fit-untold None e = refl
