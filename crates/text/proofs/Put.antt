-- Where a word has room in a buffer, and what is left of the buffer.
--
--   put-paste, put-none     == where there is room, the word replaces as many bytes from the place on; where there is none, the buffer is as it was
--   behind-room, behind-none == the place behind the word, or the place itself
--   length-put              == the buffer keeps its length
--   put_front               == at the front: the word, and the buffer behind it
--   put_then                == a word behind a word is both as one
use mathlib.Core.Path.{◌≡◌, sym, ap, ap₂, ◌∙◌}
use mathlib.Core.Logic.{inl, inr}
use mathlib.Core.Bool.{false}
use mathlib.Core.List.{List, ◌++◌, append_assoc}
use Prim.Native.Nat.{ℕ, ◌+◌, ◌≤◌, ◌<◌}
use native.Mathlib.Nat.{zero-add}
use native.Mathlib.Omega.{arith}
use lib.ListN.{length, take, drop, length-append}
use lib.Seq.{paste, length-paste, take-paste, drop-paste, take-length, drop-drop}
use Rattle.laws.proofs.Tests.{off, so-le, test}
use Rattle.text.specs.Room.{has_room, put_at, behind}

module _ (word out : List ℕ) (at : ℕ) where
  pub put-paste : at + length word ≤ length out → put_at word out at ≡ paste out at word (length word)
  unfolding put_at
  put-paste h = rw (so-le.1 h)

  pub behind-room : at + length word ≤ length out → behind word out at ≡ at + length word
  unfolding behind
  behind-room h = rw (so-le.1 h)

  no_room : length out < at + length word → has_room word out at ≡ false
  no_room h = off (λ t. let g : at + length word ≤ length out = so-le.0 t in omega arith)

  pub put-none : length out < at + length word → put_at word out at ≡ out
  unfolding put_at
  put-none h = rw (no_room h)

  pub behind-none : length out < at + length word → behind word out at ≡ at
  unfolding behind
  behind-none h = rw (no_room h)

  pub length-put : length (put_at word out at) ≡ length out
  unfolding put_at
  length-put = elim (test (has_room word out at)) [
    | inl t ↦ rw t (length-paste out at word (length word) (so-le.0 t) (omega arith))
    | inr t ↦ rw t
  ]

pub put_front : (word out : List ℕ) → length word ≤ length out → put_at word out 0 ≡ word ++ drop (length word) out
put_front word out h =
    put-paste word out 0 (omega arith)
    ∙ ap₂ (λ (w : List ℕ) (k : ℕ). w ++ drop k out) (take-length word) (zero-add (length word))

module _ (word next out : List ℕ) (at : ℕ) (h : at + length word + length next ≤ length out) where
  -- the buffer with the first word, up to the place behind it and from any place behind it on
  upto : take (at + length word) (put_at word out at) ≡ take at out ++ word
  upto =
      ap (take (at + length word)) (put-paste word out at (omega arith))
      ∙ take-paste out at word (length word) (omega arith) (omega arith)
      ∙ ap (λ (w : List ℕ). take at out ++ w) (take-length word)

  rest : drop (at + length word + length next) (put_at word out at) ≡ drop (at + length word + length next) out
  rest =
      sym (drop-drop (length next) (at + length word) (put_at word out at))
      ∙ ap (λ (o : List ℕ). drop (length next) (drop (at + length word) o)) (put-paste word out at (omega arith))
      ∙ ap (drop (length next)) (drop-paste out at word (length word) (omega arith) (omega arith))
      ∙ drop-drop (length next) (at + length word) out

  pub put_then : put_at next (put_at word out at) (at + length word) ≡ put_at (word ++ next) out at
  put_then =
      let long = length-append word next in
      put-paste next (put_at word out at) (at + length word) (omega (arith, length-put word out at))
      ∙ ap₂ (λ (a b : List ℕ). a ++ take (length next) next ++ b) upto rest
      ∙ ap (λ (n : List ℕ). take at out ++ word ++ n ++ drop (at + length word + length next) out) (take-length next)
      ∙ ap₂ (λ (a : List ℕ) (k : ℕ). a ++ drop k out) (append_assoc (take at out) word next) (let e : at + length word + length next ≡ at + length (word ++ next) = omega arith in e)
      ∙ ap (λ (w : List ℕ). take at out ++ w ++ drop (at + length (word ++ next)) out) (sym (take-length (word ++ next)))
      ∙ sym (put-paste (word ++ next) out at (omega arith))
