-- No second answer meets the contract of a public function. Each contract is an equation, so each theorem is a line.
--
--   FUNCTION-settles == the contract settles what the function gives back
use mathlib.Core.Path.{◌∙◌, sym}
use Rattle.laws.specs.Settles.{Settles}
use Rattle.trace.proofs.Op.thread.Reads as thread
use Rattle.trace.proofs.Op.thread.Kinds as thread-kinds
use Rattle.trace.proofs.Op.address.Reads as address
use Rattle.trace.proofs.Op.address.Kinds as address-kinds
use Rattle.trace.proofs.Op.read.Reads as read
use Rattle.trace.proofs.Op.read.Kinds as read-kinds
use Rattle.trace.proofs.Op.written.Reads as written
use Rattle.trace.proofs.Op.written.Kinds as written-kinds
use Rattle.trace.proofs.Op.reads.Reads as reads
use Rattle.trace.proofs.Op.reads.Kinds as reads-kinds
use Rattle.trace.proofs.Op.writes.Reads as writes
use Rattle.trace.proofs.Op.writes.Kinds as writes-kinds
use Rattle.trace.proofs.Op.fence.Reads as fence
use Rattle.trace.proofs.Op.fence.Kinds as fence-kinds
use Rattle.trace.proofs.empty.Reads as empty
use Rattle.trace.proofs.empty.Kinds as empty-kinds
use Rattle.trace.proofs.first.Reads as first
use Rattle.trace.proofs.first.Kinds as first-kinds
use Rattle.trace.proofs.started.Reads as started
use Rattle.trace.proofs.started.Kinds as started-kinds
use Rattle.trace.proofs.pushed.Reads as pushed
use Rattle.trace.proofs.pushed.Kinds as pushed-kinds
use Rattle.trace.proofs.cores.lost.Reads as lost
use Rattle.trace.proofs.cores.lost.Kinds as lost-kinds
use Rattle.trace.proofs.form.written_before.Reads as written-before
use Rattle.trace.proofs.form.written_before.Kinds as written-before-kinds
use Rattle.trace.proofs.form.bounded.Reads as bounded
use Rattle.trace.proofs.form.bounded.Kinds as bounded-kinds
use Rattle.trace.proofs.form.fresh.Reads as fresh
use Rattle.trace.proofs.form.fresh.Kinds as fresh-kinds
use Rattle.trace.proofs.form.follows.Reads as follows
use Rattle.trace.proofs.form.follows.Kinds as follows-kinds
use Rattle.trace.proofs.form.fault_of.Reads as fault-of
use Rattle.trace.proofs.form.fault_of.Kinds as fault-of-kinds
use Rattle.trace.proofs.form.well_formed.Reads as well-formed
use Rattle.trace.proofs.form.well_formed.Kinds as well-formed-kinds

pub thread-settles : Settles 0 thread-kinds.ps thread-kinds.r thread.Post
thread-settles κs a x y s t p q = p ∙ sym q

pub address-settles : Settles 0 address-kinds.ps address-kinds.r address.Post
address-settles κs a x y s t p q = p ∙ sym q

pub read-settles : Settles 0 read-kinds.ps read-kinds.r read.Post
read-settles κs a x y s t p q = p ∙ sym q

pub written-settles : Settles 0 written-kinds.ps written-kinds.r written.Post
written-settles κs a x y s t p q = p ∙ sym q

pub reads-settles : Settles 0 reads-kinds.ps reads-kinds.r reads.Post
reads-settles κs a x y s t p q = p ∙ sym q

pub writes-settles : Settles 0 writes-kinds.ps writes-kinds.r writes.Post
writes-settles κs a x y s t p q = p ∙ sym q

pub fence-settles : Settles 0 fence-kinds.ps fence-kinds.r fence.Post
fence-settles κs a x y s t p q = p ∙ sym q

pub empty-settles : Settles 0 empty-kinds.ps empty-kinds.r empty.Post
empty-settles κs a x y s t p q = p ∙ sym q

pub first-settles : Settles 0 first-kinds.ps first-kinds.r first.Post
first-settles κs a x y s t p q = p ∙ sym q

pub started-settles : Settles 0 started-kinds.ps started-kinds.r started.Post
started-settles κs a x y s t p q = p ∙ sym q

pub pushed-settles : Settles 0 pushed-kinds.ps pushed-kinds.r pushed.Post
pushed-settles κs a x y s t p q = p ∙ sym q

pub written-before-settles : Settles 0 written-before-kinds.ps written-before-kinds.r written-before.Post
written-before-settles κs a x y s t p q = p ∙ sym q

pub bounded-settles : Settles 0 bounded-kinds.ps bounded-kinds.r bounded.Post
bounded-settles κs a x y s t p q = p ∙ sym q

pub fresh-settles : Settles 0 fresh-kinds.ps fresh-kinds.r fresh.Post
fresh-settles κs a x y s t p q = p ∙ sym q

pub follows-settles : Settles 0 follows-kinds.ps follows-kinds.r follows.Post
follows-settles κs a x y s t p q = p ∙ sym q

pub well-formed-settles : Settles 0 well-formed-kinds.ps well-formed-kinds.r well-formed.Post
well-formed-settles κs a x y s t p q = p ∙ sym q

pub fault-of-settles : Settles 0 fault-of-kinds.ps fault-of-kinds.r fault-of.Post
fault-of-settles κs a x y s t p q = p ∙ sym q

pub lost-settles : Settles 0 lost-kinds.ps lost-kinds.r lost.Post
lost-settles κs a x y s t p q = p ∙ sym q
