-- The answer as a whole.
--
--   listed-none, listed_more       == the lines of no model, and of one model more
--   answer-good, answer-refused, answer-lost == the lines of all models, or the line of a refusal, are the output for the text
--   answer-says                    == a text that is read is answered: no line of it says `refused`
--   prints-one                     == no second output
--   reported-put                   == what comes of an answer that was written elsewhere and put into a buffer: it fits, or nothing is written
use mathlib.Core.Path.{◌≡◌, refl, sym, ap, ap₂, ◌∙◌, subst}
use mathlib.Core.Bool.{So}
use mathlib.Core.List.{List, [], ◌++◌}
use Prim.Native.Nat.{ℕ, zero, suc, ◌+◌, ◌≤◌}
use native.Mathlib.Nat.{zero-add}
use native.Mathlib.Omega.{arith}
use lib.ListN.{length, take}
use Rattle.trace.specs.Meaning.{frame_of}
use Rattle.trace.specs.declared.Trace.{Trace}
use Rattle.pairs.specs.Kept.{MODELS, modelled, kept_of}
use Rattle.rules.specs.Verdict as said
use Rattle.text.specs.Room.{put_at, behind}
use Rattle.text.proofs.Put.{put_front, put-none, behind-room, behind-none}
use Rattle.reader.specs.Answer.{number_of}
use Rattle.reader.specs.Whole.{LOST, read_whole}
use Rattle.reader.specs.declared.Answer.{Answer}
use Rattle.reader.specs.declared.Answer.TheVariants.{Good, Refused, Lost}
use Rattle.reader.specs.declared.Reading.{Reading}
use Rattle.reader.specs.declared.Reason.{Reason}
use Rattle.reader.proofs.Whole.{whole-well}
use Rattle.verdict.specs.VerdictOf.{laid, Told}
use Rattle.verdict.proofs.Unique.{told-one}
use Rattle.verdict.specs.declared.Verdict.{Verdict}
use Rattle.report.specs.Bounds.{VERDICT-LINE}
use Rattle.report.specs.Report.{line_of, refusal_of, Lines, Answers, Prints}
use Rattle.report.specs.Wrote.{Wrote, WroteLines, Written, Reported}
use Rattle.report.proofs.Wrote.{wrote_none, wrote_then, wrote-front}

module _ (t : Trace) (before : List ℕ) where
  pub listed-none : WroteLines t 0 before before 0
  listed-none = record { out = []; lines = refl; wrote = wrote_none before 0; within = omega arith }

  pub listed_more :
      (m : ℕ) (mid after : List ℕ) (r s : ℕ) (v : Verdict) → WroteLines t m before mid r → Told t (suc m) v → Wrote mid r (line_of (suc m) v) after s → s ≤ r + VERDICT-LINE
      → WroteLines t (suc m) before after s
  listed_more m mid after r s v l p w b = record {
    out = l.out ++ line_of (suc m) v;
    lines = (l.out, v, l.lines, p, refl);
    wrote = wrote_then before 0 l.out (line_of (suc m) v) mid after r s l.wrote w;
    within = omega (arith, l.within);
  }

module _ (text : List ℕ) (r : Reading) (e : r ≡ read_whole text) where
  whole : (a : Answer) → r.answer ≡ a → (out : List ℕ) → Answers a r.trace out → Prints text out
  whole a q out p = subst (λ (r : Reading). Answers r.answer r.trace out) e (subst (λ (a : Answer). Answers a r.trace out) (sym q) p)

  pub answer-good : r.answer ≡ Good → (out : List ℕ) → Lines r.trace MODELS out → Prints text out
  answer-good q out p = whole Good q out p

  pub answer-refused : (reason : Reason) (n line : ℕ) → r.answer ≡ Refused reason line → n ≡ number_of reason → Prints text (refusal_of n line)
  answer-refused reason n line q p = whole (Refused reason line) q (refusal_of n line) (ap (λ (n : ℕ). refusal_of n line) p)

  pub answer-lost : (n : ℕ) → r.answer ≡ Lost → n ≡ LOST → Prints text (refusal_of n 0)
  answer-lost n q p = whole Lost q (refusal_of n 0) (ap (λ (n : ℕ). refusal_of n 0) p)

pub answer-says : (text : List ℕ) (m : ℕ) → So (modelled m) → let t = (read_whole text).trace in (r : Verdict) → Told t m r → (v : said.Verdict) × said.Says (frame_of t) (kept_of m t) v × (r ≡ laid v)
answer-says text m k r h = h.says k (whole-well text)

-- no second output
lines-one : (t : Trace) (m : ℕ) (x y : List ℕ) → Lines t m x → Lines t m y → x ≡ y
lines-one t zero x y e f = e ∙ sym f
lines-one t (suc m) x y (b, v, p, q, e) (c, w, r, s, f) =
    e ∙ ap₂ (λ (l : List ℕ) (v : Verdict). l ++ line_of (suc m) v) (lines-one t m b c p r) (told-one t (suc m) v w q s) ∙ sym f

answers_one : (a : Answer) (t : Trace) (x y : List ℕ) → Answers a t x → Answers a t y → x ≡ y
answers_one Good t x y p q = lines-one t MODELS x y p q
answers_one (Refused reason line) t x y e f = e ∙ sym f
answers_one Lost t x y e f = e ∙ sym f

pub prints-one : (text x y : List ℕ) → Prints text x → Prints text y → x ≡ y
prints-one text x y = answers_one (read_whole text).answer (read_whole text).trace x y

module _ (text before blank buffer : List ℕ) (n : ℕ) (w : Written text blank buffer n) where
  pub reported-put : (after : List ℕ) (r : ℕ) → r ≡ behind (take n buffer) before 0 → after ≡ put_at (take n buffer) before 0 → Reported text before after r
  reported-put after r e p =
      let out = w.out in
      let same = (wrote-front blank out buffer n w.wrote).1 in
      let e : r ≡ behind out before 0 = e ∙ ap (λ (x : List ℕ). behind x before 0) same in
      let p : after ≡ put_at out before 0 = p ∙ ap (λ (x : List ℕ). put_at x before 0) same in
      record {
        out = out;
        prints = w.prints;
        within = omega (arith, w.wrote.ends, w.within);
        fits = λ l. (e ∙ behind-room out before 0 (omega arith) ∙ zero-add (length out), p ∙ put_front out before l);
        short = λ l. (e ∙ behind-none out before 0 (omega arith), p ∙ put-none out before 0 (omega arith));
      }
