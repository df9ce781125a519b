-- No second answer fits: each theorem speaks of a public function's contract as the checker reads it, so a clause that is weakened
-- breaks its theorem.
--
--   FUNCTION-settles == the contract settles what comes back
--   FUNCTION-leaves  == the contract settles what is left in lent memory
use mathlib.Core.Path.{sym, ◌∙◌}
use Rattle.laws.specs.Settles.{Settles, Leaves}
use Rattle.laws.proofs.Tests.{test-one}
use Rattle.rows.proofs.Closing.{chained-one}
use Rattle.rows.proofs.Nexts.{next_one}
use Rattle.rows.proofs.Turning.{turned-one}
use Rattle.rows.proofs.test.Reads as test
use Rattle.rows.proofs.test.Kinds as test-kinds
use Rattle.rows.proofs.put.Reads as put
use Rattle.rows.proofs.put.Kinds as put-kinds
use Rattle.rows.proofs.put_if.Reads as put_if
use Rattle.rows.proofs.put_if.Kinds as put-if-kinds
use Rattle.rows.proofs.clear.Reads as clear
use Rattle.rows.proofs.clear.Kinds as clear-kinds
use Rattle.rows.proofs.empty.Reads as empty
use Rattle.rows.proofs.empty.Kinds as empty-kinds
use Rattle.rows.proofs.copy.Reads as copy
use Rattle.rows.proofs.copy.Kinds as copy-kinds
use Rattle.rows.proofs.equal.Reads as equal
use Rattle.rows.proofs.equal.Kinds as equal-kinds
use Rattle.rows.proofs.within.Reads as within
use Rattle.rows.proofs.within.Kinds as within-kinds
use Rattle.rows.proofs.meets.Reads as meets
use Rattle.rows.proofs.meets.Kinds as meets-kinds
use Rattle.rows.proofs.next.Reads as next
use Rattle.rows.proofs.next.Kinds as next-kinds
use Rattle.rows.proofs.reflexive.Reads as reflexive
use Rattle.rows.proofs.reflexive.Kinds as reflexive-kinds
use Rattle.rows.proofs.add_row.Reads as add_row
use Rattle.rows.proofs.add_row.Kinds as add-row-kinds
use Rattle.rows.proofs.drop_row.Reads as drop-row
use Rattle.rows.proofs.drop_row.Kinds as drop-row-kinds
use Rattle.rows.proofs.rest.Reads as rest
use Rattle.rows.proofs.rest.Kinds as rest-kinds
use Rattle.rows.proofs.turn.Reads as turn
use Rattle.rows.proofs.turn.Kinds as turn-kinds
use Rattle.rows.proofs.chains.Reads as chains
use Rattle.rows.proofs.chains.Kinds as chains-kinds

pub test-settles : Settles 1 test-kinds.ps test-kinds.r test.Post
test-settles κs a x y s t p q = p ∙ sym q

pub put-leaves : Leaves 1 put-kinds.ps put-kinds.r (λ κs s. s.0.now) put.Post
put-leaves κs a x y s t p q = p ∙ sym q

pub put-if-leaves : Leaves 1 put-if-kinds.ps put-if-kinds.r (λ κs s. s.0.now) put_if.Post
put-if-leaves κs a x y s t p q = p ∙ sym q

pub clear-leaves : Leaves 1 clear-kinds.ps clear-kinds.r (λ κs s. s.0.now) clear.Post
clear-leaves κs a x y s t p q = p ∙ sym q

pub empty-settles : Settles 0 empty-kinds.ps empty-kinds.r empty.Post
empty-settles κs a x y s t p q = p ∙ sym q

pub copy-leaves : Leaves 2 copy-kinds.ps copy-kinds.r (λ κs s. s.1.0.now) copy.Post
copy-leaves κs a x y s t p q = p ∙ sym q

pub equal-settles : Settles 2 equal-kinds.ps equal-kinds.r equal.Post
equal-settles κs a x y s t p q = test-one p q

pub within-settles : Settles 2 within-kinds.ps within-kinds.r within.Post
within-settles κs a x y s t p q = test-one p q

pub meets-settles : Settles 2 meets-kinds.ps meets-kinds.r meets.Post
meets-settles κs a x y s t p q = test-one p q

pub next-settles : Settles 1 next-kinds.ps next-kinds.r next.Post
next-settles κs a x y s t p q = next_one a.0.now a.1.0 a.1.1.0 x y p q

pub reflexive-settles : Settles 1 reflexive-kinds.ps reflexive-kinds.r reflexive.Post
reflexive-settles κs a x y s t p q = p ∙ sym q

pub add-row-leaves : Leaves 2 add-row-kinds.ps add-row-kinds.r (λ κs s. s.1.1.0.now) add_row.Post
add-row-leaves κs a x y s t p q = p ∙ sym q

pub drop-row-leaves : Leaves 2 drop-row-kinds.ps drop-row-kinds.r (λ κs s. s.1.1.0.now) drop-row.Post
drop-row-leaves κs a x y s t p q = p ∙ sym q

pub rest-settles : Settles 2 rest-kinds.ps rest-kinds.r rest.Post
rest-settles κs a x y s t p q = p ∙ sym q

pub chains-leaves : Leaves 1 chains-kinds.ps chains-kinds.r (λ κs s. s.0.now) chains.Post
chains-leaves κs a x y s t p q = chained-one a.0.now s.0.now t.0.now p q

pub turn-leaves : Leaves 2 turn-kinds.ps turn-kinds.r (λ κs s. s.1.1.0.now) turn.Post
turn-leaves κs a x y s t p q = turned-one a.0.now a.1.0 a.1.1.0.now s.1.1.0.now t.1.1.0.now p q
