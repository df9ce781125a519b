-- Bytes written one after another.
--
--   wrote_then  == what is written behind what was written
--   wrote-byte  == one byte
--   wrote-put   == a word that has room
--   wrote_none  == nothing
--   wrote_as    == the same bytes in other words
--   wrote-front == from the front of a buffer on, it begins with what was written
--   reported-held == an answer is no longer than the buffer that holds it
use mathlib.Core.Path.{◌≡◌, refl, sym, ap, ◌∙◌, subst}
use mathlib.Core.List.{List, [], ◌∷◌, ◌++◌, append_assoc, append-nil}
use Prim.Native.Nat.{ℕ, ◌+◌, ◌≤◌, ◌<◌}
use native.Mathlib.Numerals.{add-one}
use native.Mathlib.Decide.{dec_lt}
use native.Mathlib.Omega.{arith}
use lib.ListN.{length, take, drop, set, length-append, length-set}
use lib.Seq.{take-paste, take-suc-set, take-length}
use Rattle.text.specs.Room.{put_at, behind}
use Rattle.text.proofs.Put.{put-paste, behind-room, length-put}
use Rattle.report.specs.Wrote.{Wrote, Reported}

module _ (before : List ℕ) (at : ℕ) where
  pub wrote_then : (x y m after : List ℕ) (r s : ℕ) → Wrote before at x m r → Wrote m r y after s → Wrote before at (x ++ y) after s
  wrote_then x y m after r s p q = record {
    long = q.long ∙ p.long;
    ends = omega (arith, q.ends, p.ends, length-append x y);
    said = q.said ∙ ap (λ (l : List ℕ). l ++ y) p.said ∙ append_assoc (take at before) x y;
  }

  pub wrote-byte : (v : ℕ) → at < length before → Wrote before at (v ∷ []) (set before at v) (at + 1)
  wrote-byte v h = record {
    long = length-set before at v;
    ends = refl;
    said = rw add-one (take-suc-set before at v h);
  }

  pub wrote-put : (word after : List ℕ) (r : ℕ) → at + length word ≤ length before → r ≡ behind word before at → after ≡ put_at word before at → Wrote before at word after r
  wrote-put word after r h e p =
      let ends = e ∙ behind-room word before at h in
      let same = p ∙ put-paste word before at h in
      record {
        long = ap length p ∙ length-put word before at;
        ends = ends;
        said = rw (ends, same) (take-paste before at word (length word) (omega arith) (omega arith) ∙ ap (λ (w : List ℕ). take at before ++ w) (take-length word));
      }

  pub wrote_none : Wrote before at [] before at
  wrote_none = record { long = refl; ends = omega arith; said = sym (append-nil (take at before)) }

pub wrote_as : {before bytes same after : List ℕ} {at r : ℕ} → bytes ≡ same → Wrote before at bytes after r → Wrote before at same after r
wrote_as {before} {bytes} {same} {after} {at} {r} e w = subst (λ (b : List ℕ). Wrote before at b after r) e w

pub wrote-front : (before bytes after : List ℕ) (r : ℕ) → Wrote before 0 bytes after r → (r ≡ length bytes) × (take r after ≡ bytes)
wrote-front before bytes after r w = (omega (arith, w.ends), w.said)

pub reported-held : (text before after : List ℕ) (r : ℕ) → Reported text before after r → r ≤ length after
reported-held text before after r p = elim (dec_lt (length before) (length p.out)) [
  | yes h ↦ let e = (p.short h).0 in omega arith
  | no h ↦
      let e = p.fits (omega arith) in
      omega (arith, e.0, ap length e.1 ∙ length-append p.out (drop (length p.out) before))
]
