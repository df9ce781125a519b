-- No second answer fits the contracts of the shown circle, as the checker reads them.
--
--   shown-settles, shown-leaves == the length of the circle of rows, and what is left in the buffer
--   circle-of-settles           == the circle of a trace with its rules
--   circle-by-settles           == the same from lent kept pairs
use lib.ListN.{length}
use Rattle.laws.specs.Settles.{Settles, Leaves}
use Rattle.circle.proofs.ShownIn.{shown-in-one}
use Rattle.rows.specs.Lent.{lent_of}
use Rattle.circle.proofs.CircleOf.{circle-of-one, circle-by-one}
use Rattle.circle.proofs.trail.shown.Reads as shown
use Rattle.circle.proofs.trail.shown.Kinds as shown-kinds
use Rattle.circle.proofs.show.circle_of.Reads as circle-of
use Rattle.circle.proofs.show.circle_of.Kinds as circle-of-kinds
use Rattle.circle.proofs.show.circle_by.Reads as circle-by
use Rattle.circle.proofs.show.circle_by.Kinds as circle-by-kinds

pub shown-settles : Settles 2 shown-kinds.ps shown-kinds.r shown.Post
shown-settles κs a x y s t p q = (shown-in-one a.0.now (length a.1.0.now) x y s.1.0.now t.1.0.now p q).0

pub shown-leaves : Leaves 2 shown-kinds.ps shown-kinds.r (λ κs s. s.1.0.now) shown.Post
shown-leaves κs a x y s t p q = (shown-in-one a.0.now (length a.1.0.now) x y s.1.0.now t.1.0.now p q).1

pub circle-of-settles : Settles 0 circle-of-kinds.ps circle-of-kinds.r circle-of.Post
circle-of-settles κs a x y s t p q = circle-of-one a.0 a.1.0 x y p q

pub circle-by-settles : Settles 1 circle-by-kinds.ps circle-by-kinds.r circle-by.Post
circle-by-settles κs a x y s t p q = circle-by-one a.0 (lent_of a.0 a.1.0.now) x y p q
