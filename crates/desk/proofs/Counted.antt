-- A packed file and a text behind their counts.
--
--   for-wrong, for-good    == what is answered and left where something is wrong, and where nothing is
--   tell-short, tell-done  == no room, and nothing is laid; room, and the count and the bytes are laid down in turn
--   laid-file              == the writer lays the file of a well formed trace where any has room
--   text-short, laid-text  == the text of a well formed trace has a text's bytes at the most, and is laid down where any has room
use mathlib.Core.Path.{◌≡◌, refl, sym, ap, ap₂, ◌∙◌}
use mathlib.Core.Logic.{◌≢◌}
use mathlib.Core.Bool.{So}
use mathlib.Core.List.{List, [], ◌∷◌, ◌++◌}
use Prim.Native.Nat.{ℕ, ◌+◌, ◌<◌, ◌≤◌}
use native.Mathlib.Omega.{arith}
use lib.ListN.{length, take, drop, length-append}
use lib.Seq.{take_at}
use borrow.Author.Tests.{ne_eqb, le-leb, lt-leb}
use Rattle.text.specs.Room.{put_at, behind}
use Rattle.text.proofs.Put.{put_front, put-none, put_then, behind-room}
use Rattle.trace.specs.WellFormed.{well_formed}
use Rattle.trace.specs.declared.Trace.{Trace}
use Rattle.reader.specs.Bounds.{TEXT}
use Rattle.reader.specs.TextOf.{render_trace}
use Rattle.reader.proofs.RoundTrip.{round_trip}
use Rattle.reader.proofs.Cases.{read-good}
use Rattle.packed.specs.Layout.{file_of}
use Rattle.packed.specs.Write.{long_of, wrote_of, left_of}
use Rattle.packed.proofs.FileLaid.{file-long, places, len-fits, many-fits}
use Rattle.desk.specs.AnswerNumbers.{NO-ROOM}
use Rattle.desk.specs.VerdictBytes.{wide}
use Rattle.desk.specs.Packs.{COUNT, with_count, FILE, LaidBytes, length_in, answer_for, bytes_for}

module _ (n : ℕ) (bs b : List ℕ) where
  pub for-wrong : n ≢ 0 → (n ≡ answer_for n bs b) × (b ≡ bytes_for n bs b)
  unfolding answer_for bytes_for
  for-wrong d = ((rw (ne_eqb n 0 d) refl), (rw (ne_eqb n 0 d) refl))

  pub for-good : n ≡ 0 → (answer_for 0 bs b ≡ answer_for n bs b) × (bytes_for 0 bs b ≡ bytes_for n bs b)
  for-good e = (ap (λ (k : ℕ). answer_for k bs b) (sym e), ap (λ (k : ℕ). bytes_for k bs b) (sym e))

module _ (bs b : List ℕ) where
  -- the count, and its bytes
  abbrev count : List ℕ
  count = wide (length bs ∷ [])

  count_long : length count ≡ COUNT
  unfolding wide
  count_long = refl

  long : length (with_count bs) ≡ COUNT + length bs
  long = length-append count bs ∙ ap (λ (k : ℕ). k + length bs) count_long

  pub tell-short : length b < COUNT + length bs → (NO-ROOM ≡ answer_for 0 bs b) × (b ≡ bytes_for 0 bs b)
  unfolding answer_for bytes_for
  tell-short h = ((rw (lt-leb (length (with_count bs)) (length b) (omega (arith, long))) refl), sym (put-none (with_count bs) b 0 (omega (arith, long))))

  pub tell-done : COUNT + length bs ≤ length b → (now : List ℕ) → now ≡ put_at bs (put_at count b 0) COUNT → (0 ≡ answer_for 0 bs b) × (now ≡ bytes_for 0 bs b)
  unfolding answer_for bytes_for
  tell-done h now q = (
    (rw (le-leb (length (with_count bs)) (length b) (omega (arith, long))) refl),
    q ∙ ap (put_at bs (put_at count b 0)) (let z : COUNT ≡ 0 + length count = omega (arith, count_long) in z) ∙ put_then count bs b 0 (omega (arith, count_long)),
  )

module _ (t : Trace) (w : So (well_formed t)) (b : List ℕ) where
  pub laid-file : FILE ≤ length b → (after : List ℕ) → after ≡ left_of t b → (n : ℕ) → n ≡ length_in (wrote_of t b) → LaidBytes (file_of t) FILE after n
  unfolding wrote_of left_of
  laid-file h after q n e =
      let l : long_of t ≤ FILE = omega (arith, file-long t (places t w), len-fits t w, many-fits t w) in
      let y = le-leb (long_of t) (length b) (omega arith) in
      let m : n ≡ long_of t = e ∙ (rw (w, y) refl) in
      let r : after ≡ file_of t ++ drop (long_of t) b = q ∙ (rw (w, y) refl) in
      record {
        long = m;
        short = omega (arith, m, l);
        within = omega (arith, m, ap length r, length-append (file_of t) (drop (long_of t) b));
        front = ap₂ take m r ∙ take_at (file_of t) (drop (long_of t) b) (long_of t) refl;
      }

  pub text-short : length (render_trace t) ≤ TEXT
  text-short = ((read-good (render_trace t) t).0 (round_trip t w)).0

  pub laid-text : TEXT ≤ length b → (after : List ℕ) → after ≡ put_at (render_trace t) b 0 → (n : ℕ) → n ≡ behind (render_trace t) b 0 → LaidBytes (render_trace t) TEXT after n
  laid-text h after q n e =
      let m : n ≡ length (render_trace t) = omega (arith, e, behind-room (render_trace t) b 0 (omega (arith, text-short, h))) in
      let r : after ≡ render_trace t ++ drop (length (render_trace t)) b = q ∙ put_front (render_trace t) b (omega (arith, text-short, h)) in
      record {
        long = m;
        short = omega (arith, m, text-short);
        within = omega (arith, m, ap length r, length-append (render_trace t) (drop (length (render_trace t)) b));
        front = ap₂ take m r ∙ take_at (render_trace t) (drop (length (render_trace t)) b) (length (render_trace t)) refl;
      }
