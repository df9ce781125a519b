-- What a trace means.
--
--   frame_of t == the trace as the rules see it
use Rattle.std.specs.Prelude.{not, ◌&&◌, eqb, ltb}
use Rattle.trace.specs.Op.{thread, address, read, written, reads, writes, fence}
use Rattle.trace.specs.Trace.{at, first}
use Rattle.rules.specs.Frame.{Frame}
use Rattle.trace.specs.declared.Trace.{Trace}

-- records are numbered from 0, fences counted; a fence is no operation; program order is the record order within one thread
unfoldable pub frame_of : Trace → Frame
frame_of t = record {
  records = t.len;
  operation = λ x. ltb x t.len && not (fence (at t x));
  reads = λ x. ltb x t.len && reads (at t x);
  writes = λ x. ltb x t.len && writes (at t x);
  address = λ x. address (at t x);
  read = λ x. read (at t x);
  written = λ x. written (at t x);
  first = first t;
  earlier = λ x y. ltb x y && eqb (thread (at t x)) (thread (at t y));
}
