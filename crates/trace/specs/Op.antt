-- What a record carries. A number that it does not carry is 0 here.
--
--   thread, address, read, written == its numbers
--   reads, writes, fence           == what it does; a swap reads and writes
--   writes_to o a v                 == o writes v to address a
use Rattle.std.specs.Prelude.{Bool, true, false, ◌&&◌, ℕ, eqb}
use Rattle.trace.specs.declared.Op.{Op}
use Rattle.trace.specs.declared.Op.TheVariants.{Load, Store, Swap, Fence}

abbrev pub thread : Op → ℕ
thread (Load t a r) = t
thread (Store t a w) = t
thread (Swap t a r w) = t
thread (Fence t) = t

abbrev pub address : Op → ℕ
address (Load t a r) = a
address (Store t a w) = a
address (Swap t a r w) = a
address (Fence t) = 0

abbrev pub read : Op → ℕ
read (Load t a r) = r
read (Store t a w) = 0
read (Swap t a r w) = r
read (Fence t) = 0

abbrev pub written : Op → ℕ
written (Load t a r) = 0
written (Store t a w) = w
written (Swap t a r w) = w
written (Fence t) = 0

abbrev pub reads : Op → Bool
reads (Load t a r) = true
reads (Store t a w) = false
reads (Swap t a r w) = true
reads (Fence t) = false

abbrev pub writes : Op → Bool
writes (Load t a r) = false
writes (Store t a w) = true
writes (Swap t a r w) = true
writes (Fence t) = false

abbrev pub fence : Op → Bool
fence (Load t a r) = false
fence (Store t a w) = false
fence (Swap t a r w) = false
fence (Fence t) = true

abbrev pub writes_to : Op → ℕ → ℕ → Bool
writes_to o a v = writes o && eqb (address o) a && eqb (written o) v
