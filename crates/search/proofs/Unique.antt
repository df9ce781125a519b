-- No second answer meets the contract of the public function.
--
--   first-order-settles, first-order-by-settles == the contract settles the order that is handed back
use Rattle.laws.specs.Settles.{Settles}
use Rattle.rows.specs.Lent.{lent_of}
use Rattle.search.proofs.FirstOrder.{first_one, first-by-one}
use Rattle.search.proofs.first.first_order.Reads as first-order
use Rattle.search.proofs.first.first_order.Kinds as first-order-kinds
use Rattle.search.proofs.first.first_order_by.Reads as first-order-by
use Rattle.search.proofs.first.first_order_by.Kinds as first-order-by-kinds

pub first-order-settles : Settles 0 first-order-kinds.ps first-order-kinds.r first-order.Post
first-order-settles κs a x y s t p q = first_one a.0 a.1.0 x y p q

pub first-order-by-settles : Settles 1 first-order-by-kinds.ps first-order-by-kinds.r first-order-by.Post
first-order-by-settles κs a x y s t p q = first-by-one a.0 (lent_of a.0 a.1.0.now) x y p q
