-- A session's bytes laid down: its trace's file behind the head, then the head.
--
--   found                    == whether the writer found room
--   placed-short, placed-none, placed-done == no room for a head; none for the file; room for both
use mathlib.Core.Path.{◌≡◌, refl, sym, ap, ◌∙◌}
use mathlib.Core.Bool.{Bool, true, false, So, cond, false≢true}
use mathlib.Core.List.{List, ◌++◌, append-nil, append_assoc}
use Prim.Native.Nat.{ℕ, ◌+◌, ◌-◌, ◌<◌, ◌≤◌}
use native.Mathlib.Decide.{dec_lt}
use native.Mathlib.Omega.{arith}
use lib.Dec.{leb}
use lib.ListN.{length, take, drop, take-append-drop, drop_of_length-le, length-append, length-drop}
use lib.Seq.{drop-drop, drop_at, length-take-le}
use borrow.Author.Tests.{le-leb, lt-leb}
use Rattle.std.specs.Prelude.{Result, Ok, Err}
use Rattle.laws.proofs.Tests.{so-le}
use Rattle.text.specs.Room.{put_at}
use Rattle.text.proofs.Put.{put_front, put-none}
use Rattle.trace.specs.WellFormed.{well_formed}
use Rattle.packed.specs.Layout.{file_of}
use Rattle.packed.specs.Write.{wrote_of, left_of}
use Rattle.packed.specs.declared.Unwritten.{Unwritten}
use Rattle.packed.specs.declared.Unwritten.TheVariants.{NoRoom}
use Rattle.session.specs.declared.Session.{Session}
use Rattle.session.proofs.Openings.{openable-iff}
use Rattle.desk.specs.SessionHead.{Fit, SESSION-HEAD, session_head, session_bytes}
use Rattle.desk.proofs.HeadBytes.{head-long}
use Rattle.desk.proofs.Keeping.{behind}

abbrev pub found : Result ℕ Unwritten → Bool
found (Ok n) = true
found (Err why) = false

module _ (s : Session) (f : Fit s) (b : List ℕ) where
  -- its file
  abbrev file : List ℕ
  file = file_of s.trace

  well : So (well_formed s.trace)
  well = ((openable-iff s.trace s.model).0 f.0).form

  long : length (session_bytes s) ≡ SESSION-HEAD + length file
  long = length-append (session_head s) file ∙ ap (λ (n : ℕ). n + length file) (head-long s)

  pub placed-short : length b < SESSION-HEAD → (false ≡ leb (length (session_bytes s)) (length b)) × (b ≡ put_at (session_bytes s) b 0)
  placed-short h = (sym (lt-leb (length (session_bytes s)) (length b) (omega (arith, long))), sym (put-none (session_bytes s) b 0 (omega (arith, long))))

  module _ (h : SESSION-HEAD ≤ length b) where
    -- what is lent to the writer, and what the bytes are after it
    abbrev lent : List ℕ
    lent = take (length b - SESSION-HEAD) (drop SESSION-HEAD b)

    abbrev whole : List ℕ → List ℕ
    whole last = take SESSION-HEAD b ++ (last ++ drop (length b - SESSION-HEAD) (drop SESSION-HEAD b))

    -- nothing stands behind what is lent
    ended : (last : List ℕ) → whole last ≡ take SESSION-HEAD b ++ last
    ended last =
        ap (λ (x : List ℕ). take SESSION-HEAD b ++ (last ++ x)) (drop_of_length-le (drop SESSION-HEAD b) {i = length b - SESSION-HEAD} (omega (arith, length-drop SESSION-HEAD b)))
        ∙ ap (λ (x : List ℕ). take SESSION-HEAD b ++ x) (append-nil last)

    lent-long : length lent ≡ length b - SESSION-HEAD
    lent-long = ap length (behind b) ∙ length-drop SESSION-HEAD b

    -- the writer finds room exactly where there is room for all
    found-room : found (wrote_of s.trace lent) ≡ leb (length file) (length lent)
    unfolding wrote_of
    found-room = rw well (go (leb (length file) (length lent)))
      where
        go : (r : Bool) → found (cond r (Ok (length file)) (Err NoRoom)) ≡ r
        go true = refl
        go false = refl

    module _ (r : Result ℕ Unwritten) (e : r ≡ wrote_of s.trace lent) (last : List ℕ) (q : last ≡ left_of s.trace lent) where
      pub placed-none : found r ≡ false → (false ≡ leb (length (session_bytes s)) (length b)) × (whole last ≡ put_at (session_bytes s) b 0)
      unfolding left_of
      placed-none n =
          let z : leb (length file) (length lent) ≡ false = sym found-room ∙ ap found (sym e) ∙ n in
          let g : length b < SESSION-HEAD + length file = elim (dec_lt (length b) (SESSION-HEAD + length file)) [ yes k ↦ k | no k ↦ absurd (false≢true (sym z ∙ le-leb (length file) (length lent) (omega (arith, lent-long)))) ] in
          let stays : last ≡ lent = q ∙ (rw (well, z) refl) in (
            sym (lt-leb (length (session_bytes s)) (length b) (omega (arith, long))),
            ap whole stays ∙ ended lent ∙ ap (λ (x : List ℕ). take SESSION-HEAD b ++ x) (behind b) ∙ take-append-drop SESSION-HEAD b ∙ sym (put-none (session_bytes s) b 0 (omega (arith, long))),
          )

      pub placed-done : found r ≡ true → (now : List ℕ) → now ≡ session_head s ++ drop SESSION-HEAD (whole last) → (true ≡ leb (length (session_bytes s)) (length b)) × (now ≡ put_at (session_bytes s) b 0)
      unfolding left_of
      placed-done y now p =
          let z : leb (length file) (length lent) ≡ true = sym found-room ∙ ap found (sym e) ∙ y in
          let k : length file ≤ length lent = so-le.0 z in
          let g : SESSION-HEAD + length file ≤ length b = omega (arith, lent-long) in
          let left : last ≡ file ++ drop (length file) lent = q ∙ (rw (well, z) refl) in
          let rest : drop (length file) lent ≡ drop (length (session_bytes s)) b = ap (drop (length file)) (behind b) ∙ drop-drop (length file) SESSION-HEAD b ∙ ap (λ (n : ℕ). drop n b) (sym long) in
          let tail : drop SESSION-HEAD (whole last) ≡ file ++ drop (length (session_bytes s)) b = ap (drop SESSION-HEAD) (ended last) ∙ drop_at (take SESSION-HEAD b) last SESSION-HEAD (length-take-le SESSION-HEAD b h) ∙ left ∙ ap (λ (x : List ℕ). file ++ x) rest in (
            sym (le-leb (length (session_bytes s)) (length b) (omega (arith, long))),
            p ∙ ap (λ (x : List ℕ). session_head s ++ x) tail ∙ sym (append_assoc (session_head s) file (drop (length (session_bytes s)) b)) ∙ sym (put_front (session_bytes s) b (omega (arith, long))),
          )
