-- No second answer meets the contract of a public function.
--
--   FUNCTION-settles == the contract settles what the function gives back
--   FUNCTION-leaves  == and what the lent memory holds
use mathlib.Core.Path.{◌∙◌, sym}
use Rattle.laws.specs.Settles.{Settles, Leaves}
use Rattle.signature.proofs.packing.words_of.Reads as words_of
use Rattle.signature.proofs.packing.words_of.Kinds as words-of-kinds
use Rattle.signature.proofs.packing.words_in.Reads as words-in
use Rattle.signature.proofs.packing.words_in.Kinds as words-in-kinds
use Rattle.signature.proofs.packing.loads_of.Reads as loads-of
use Rattle.signature.proofs.packing.loads_of.Kinds as loads-of-kinds
use Rattle.signature.proofs.packing.pack.Reads as pack
use Rattle.signature.proofs.packing.pack.Kinds as pack-kinds
use Rattle.signature.proofs.unpacking.unpack.Reads as unpack
use Rattle.signature.proofs.unpacking.unpack.Kinds as unpack-kinds
use Rattle.signature.proofs.runs.unpack_runs.Reads as unpack-runs
use Rattle.signature.proofs.runs.unpack_runs.Kinds as unpack-runs-kinds

pub words-of-settles : Settles 0 words-of-kinds.ps words-of-kinds.r words_of.Post
words-of-settles κs a x y s t p q = p ∙ sym q

pub words-in-settles : Settles 0 words-in-kinds.ps words-in-kinds.r words-in.Post
words-in-settles κs a x y s t p q = p ∙ sym q

pub loads-of-settles : Settles 0 loads-of-kinds.ps loads-of-kinds.r loads-of.Post
loads-of-settles κs a x y s t p q = p ∙ sym q

pub pack-settles : Settles 1 pack-kinds.ps pack-kinds.r pack.Post
pack-settles κs a x y s t p q = p.0 ∙ sym q.0

pub pack-leaves : Leaves 1 pack-kinds.ps pack-kinds.r (λ κs s. s.1.0.now) pack.Post
pack-leaves κs a x y s t p q = p.1 ∙ sym q.1

pub unpack-settles : Settles 2 unpack-kinds.ps unpack-kinds.r unpack.Post
unpack-settles κs a x y s t p q = p.0 ∙ sym q.0

pub unpack-leaves : Leaves 2 unpack-kinds.ps unpack-kinds.r (λ κs s. s.1.1.0.now) unpack.Post
unpack-leaves κs a x y s t p q = p.1 ∙ sym q.1

pub unpack-runs-settles : Settles 2 unpack-runs-kinds.ps unpack-runs-kinds.r unpack-runs.Post
unpack-runs-settles κs a x y s t p q = p.0 ∙ sym q.0

pub unpack-runs-leaves : Leaves 2 unpack-runs-kinds.ps unpack-runs-kinds.r (λ κs s. s.1.1.0.now) unpack-runs.Post
unpack-runs-leaves κs a x y s t p q = p.1 ∙ sym q.1
