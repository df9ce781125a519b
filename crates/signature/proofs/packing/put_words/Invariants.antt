use mathlib.Core.Path.{◌≡◌}
use Prim.Native.Nat.{◌≤◌}
use lib.ListN.{length, take}
use Rattle.signature.proofs.packing.put_words.Given as goal

abbrev pub invariant-loop-i : goal.invariant-loop-i
invariant-loop-i l = (l.i ≤ l.o.count) × (length l.words ≡ length l.initial.words) × (take l.i l.words ≡ take l.i l.o.of)
