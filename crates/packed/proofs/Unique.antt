-- No second answer meets the contract of a public function.
--
--   FUNCTION-settles == the contract settles what the function gives back
--   FUNCTION-leaves  == and what the lent bytes hold
use mathlib.Core.Path.{◌∙◌, sym}
use Rattle.laws.specs.Settles.{Settles, Leaves}
use Rattle.packed.proofs.number.Reads as number
use Rattle.packed.proofs.number.Kinds as number-kinds
use Rattle.packed.proofs.entries.op_in.Reads as op-in
use Rattle.packed.proofs.entries.op_in.Kinds as op-in-kinds
use Rattle.packed.proofs.unpacking.read.Reads as read
use Rattle.packed.proofs.unpacking.read.Kinds as read-kinds
use Rattle.packed.proofs.unpacking.read_whole.Reads as read_whole
use Rattle.packed.proofs.unpacking.read_whole.Kinds as read-whole-kinds
use Rattle.packed.proofs.packing.write.Reads as write
use Rattle.packed.proofs.packing.write.Kinds as write-kinds
use Rattle.packed.proofs.packing.write_whole.Reads as write-whole
use Rattle.packed.proofs.packing.write_whole.Kinds as write-whole-kinds

pub number-settles : Settles 0 number-kinds.ps number-kinds.r number.Post
number-settles κs a x y s t p q = p ∙ sym q

pub op-in-settles : Settles 0 op-in-kinds.ps op-in-kinds.r op-in.Post
op-in-settles κs a x y s t p q = p ∙ sym q

pub read-settles : Settles 1 read-kinds.ps read-kinds.r read.Post
read-settles κs a x y s t p q = p ∙ sym q

pub read-whole-settles : Settles 1 read-whole-kinds.ps read-whole-kinds.r read_whole.Post
read-whole-settles κs a x y s t p q = p ∙ sym q

pub write-settles : Settles 1 write-kinds.ps write-kinds.r write.Post
write-settles κs a x y s t p q = p.0 ∙ sym q.0

pub write-leaves : Leaves 1 write-kinds.ps write-kinds.r (λ κs s. s.1.0.now) write.Post
write-leaves κs a x y s t p q = p.1 ∙ sym q.1

pub write-whole-settles : Settles 1 write-whole-kinds.ps write-whole-kinds.r write-whole.Post
write-whole-settles κs a x y s t p q = p.0 ∙ sym q.0

pub write-whole-leaves : Leaves 1 write-whole-kinds.ps write-whole-kinds.r (λ κs s. s.1.0.now) write-whole.Post
write-whole-leaves κs a x y s t p q = p.1 ∙ sym q.1
