-- One line more of a text.
--
--   read_taken, bad-taken     == a line that is taken leaves the answer to the lines behind it
--   read-refused, bad-refused == a line that is refused ends it
--   read-begun, bad-begun     == an init line that gives a first value leaves the answer to the lines behind it
--   read_left, bad-left       == any other line ends the init lines
use mathlib.Core.Path.{◌≡◌, ap}
use mathlib.Core.Bool.{Bool, true}
use mathlib.Core.List.{List, ◌∷◌}
use Prim.Native.Nat.{ℕ, ◌+◌}
use lib.ListN.{set}
use Rattle.std.specs.Prelude.{Option, Some, None, Result, Ok, Err}
use Rattle.trace.specs.Trace.{started, pushed}
use Rattle.trace.specs.declared.Op.{Op}
use Rattle.trace.specs.declared.Trace.{Trace}
use Rattle.text.specs.Lines.{Line}
use Rattle.reader.specs.Answer.{turned, init_given}
use Rattle.reader.specs.Read.{refusal, read_lines, read_inits, bad_lines, bad_inits}
use Rattle.reader.specs.LineForms.{init}
use Rattle.reader.specs.declared.Init.{Init}
use Rattle.reader.specs.declared.Reason.{Reason}

module _ (t : Trace) (l : Line) (ls : List Line) where
  module _ (o : Op) (e : turned t l ≡ Ok o) where
    pub read_taken : (n : ℕ) → read_lines n t (l ∷ ls) ≡ read_lines (n + 1) (pushed t o) ls
    unfolding read_lines
    read_taken n = ap (λ (r : Result Op Reason). elim r [ Ok o ↦ read_lines (n + 1) (pushed t o) ls | Err reason ↦ refusal reason n ]) e

    pub bad-taken : bad_lines t (l ∷ ls) ≡ bad_lines (pushed t o) ls
    unfolding bad_lines
    bad-taken = ap (λ (r : Result Op Reason). elim r [ Ok o ↦ bad_lines (pushed t o) ls | Err reason ↦ l.bytes ]) e

  module _ (reason : Reason) (e : turned t l ≡ Err reason) where
    pub read-refused : (n : ℕ) → read_lines n t (l ∷ ls) ≡ refusal reason n
    unfolding read_lines
    read-refused n = ap (λ (r : Result Op Reason). elim r [ Ok o ↦ read_lines (n + 1) (pushed t o) ls | Err reason ↦ refusal reason n ]) e

    pub bad-refused : bad_lines t (l ∷ ls) ≡ l.bytes
    unfolding bad_lines
    bad-refused = ap (λ (r : Result Op Reason). elim r [ Ok o ↦ bad_lines (pushed t o) ls | Err reason ↦ l.bytes ]) e

  module _ (given : List Bool) where
    module _ (a v : ℕ) (e : init_given given l ≡ Some (init a v)) where
      pub read-begun : (n : ℕ) → read_inits n given t (l ∷ ls) ≡ read_inits (n + 1) (set given a true) (started t a v) ls
      unfolding read_inits
      read-begun n = ap (λ (r : Option Init). elim r [ Some i ↦ read_inits (n + 1) (set given i.addr true) (started t i.addr i.value) ls | None ↦ read_lines n t (l ∷ ls) ]) e

      pub bad-begun : bad_inits given t (l ∷ ls) ≡ bad_inits (set given a true) (started t a v) ls
      unfolding bad_inits
      bad-begun = ap (λ (r : Option Init). elim r [ Some i ↦ bad_inits (set given i.addr true) (started t i.addr i.value) ls | None ↦ bad_lines t (l ∷ ls) ]) e

    module _ (e : init_given given l ≡ None) where
      pub read_left : (n : ℕ) → read_inits n given t (l ∷ ls) ≡ read_lines n t (l ∷ ls)
      unfolding read_inits
      read_left n = ap (λ (r : Option Init). elim r [ Some i ↦ read_inits (n + 1) (set given i.addr true) (started t i.addr i.value) ls | None ↦ read_lines n t (l ∷ ls) ]) e

      pub bad-left : bad_inits given t (l ∷ ls) ≡ bad_lines t (l ∷ ls)
      unfolding bad_inits
      bad-left = ap (λ (r : Option Init). elim r [ Some i ↦ bad_inits (set given i.addr true) (started t i.addr i.value) ls | None ↦ bad_lines t (l ∷ ls) ]) e
