-- The head of a file, test by test.
--
--   file-unmarked, file-version, file-size, file-many, file-entries == what a file gets, with the tests that lead to it
--   marked-long == a marked file is long enough for mark and version
--   firsts-bare == what is read of first values has no records
use mathlib.Core.Path.{◌≡◌, refl}
use mathlib.Core.Logic.{◌≢◌}
use mathlib.Core.Bool.{Bool, true, false, cond, So, ◌||◌}
use mathlib.Core.List.{List}
use Prim.Native.Nat.{ℕ, zero, suc, ◌+◌, ◌<◌, ◌≤◌}
use lib.Dec.{eqb, ltb, leb}
use lib.ListN.{length, get_or, set, drop}
use borrow.Author.Tests.{eq-eqb, ne_eqb, le-leb, lt-leb}
use Rattle.laws.proofs.Tests.{and-iff, same-iff, so-le}
use Rattle.trace.specs.Bounds.{RECORDS, ADDRESSES}
use Rattle.packed.specs.Layout.{VERSION, FIRST, two_in, size_of}
use Rattle.packed.specs.FileRead.{back, read_firsts, read_entries, marked, read_file}
use Rattle.packed.specs.declared.Reason.TheVariants.{TooMany, NoFile, OtherVersion, NoEntry, PastBound}

pub marked-long : (b : List ℕ) → So (marked b) → 5 ≤ length b
marked-long b s = ((and-iff (and-iff (and-iff so-le same-iff) same-iff) same-iff).0 s).0.0.0

module _ (b : List ℕ) where
  pub file-unmarked : marked b ≡ false → read_file b ≡ back NoFile 0
  unfolding read_file
  file-unmarked m = rw m refl

  module _ (m : So (marked b)) where
    pub file-version : two_in b 3 ≢ VERSION → read_file b ≡ back OtherVersion 0
    unfolding read_file
    file-version d = rw (m, ne_eqb (two_in b 3) VERSION d) refl

    module _ (v : two_in b 3 ≡ VERSION) where
      pub file-size : length b ≢ size_of (get_or b 5 0) (two_in b 6) → read_file b ≡ back NoFile 0
      unfolding read_file
      file-size d = rw (m, eq-eqb (two_in b 3) VERSION v, ne_eqb (length b) _ d) refl

      module _ (l : length b ≡ size_of (get_or b 5 0) (two_in b 6)) where
        pub file-many : RECORDS < two_in b 6 → read_file b ≡ back TooMany (RECORDS + 1)
        unfolding read_file
        file-many h = rw (m, eq-eqb (two_in b 3) VERSION v, eq-eqb (length b) _ l, lt-leb (two_in b 6) RECORDS h) refl

        pub file-entries : two_in b 6 ≤ RECORDS → read_file b ≡ read_entries b (get_or b 5 0) (two_in b 6)
        unfolding read_file
        file-entries h = rw (m, eq-eqb (two_in b 3) VERSION v, eq-eqb (length b) _ l, le-leb (two_in b 6) RECORDS h) refl

pub firsts-bare : (c low : ℕ) (vs b : List ℕ) → (read_firsts c low vs b).trace.len ≡ 0
unfolding read_firsts
firsts-bare zero low vs b = refl
firsts-bare (suc c) low vs b = go (eqb (two_in b 1) 0 || ltb (get_or b 0 0) low) (leb ADDRESSES (get_or b 0 0)) (firsts-bare c (get_or b 0 0 + 1) (set vs (get_or b 0 0) (two_in b 1)) (drop FIRST b))
  where
    go : (x y : Bool) → (read_firsts c (get_or b 0 0 + 1) (set vs (get_or b 0 0) (two_in b 1)) (drop FIRST b)).trace.len ≡ 0
        → (cond x (back NoEntry 0) (cond y (back PastBound 0) (read_firsts c (get_or b 0 0 + 1) (set vs (get_or b 0 0) (two_in b 1)) (drop FIRST b)))).trace.len ≡ 0
    go true y e = refl
    go false true e = refl
    go false false e = e
