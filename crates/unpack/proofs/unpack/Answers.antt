-- The memory is as long as it was made. The length is cited: to count it out takes more stack than the checker has.
use Rattle.std.proofs.Common.{ℕ, sym}
use Rattle.std.proofs.lemmas.List.{length-replicate}
use Rattle.unpack.proofs.unpack.Goals as goal

pub slice_bounds-unpack_in-end : goal.slice_bounds-unpack_in-end
slice_bounds-unpack_in-end c = sym (length-replicate {0} {A = ℕ} 525054 0)
