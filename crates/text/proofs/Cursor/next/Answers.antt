-- `text::Cursor::next`: past the feed, or at the end.
use borrow.Author.Tests.{le-leb, lt-leb, lt-ltb, le-ltb}
use Rattle.text.specs.Lines.{next_at}
use Rattle.text.proofs.Cursor.next.Goals as goal

pub returns-then-text-at : goal.returns-then-text-at
unfolding next_at
returns-then-text-at c = simp (le-leb _ _ c.if-text-at.true)

pub returns-then-e-text : goal.returns-then-e-text
unfolding next_at
returns-then-e-text c = simp (lt-leb _ _ c.if-text-at.false, ← c.line_end-e.ensures, lt-ltb _ _ c.if-e-text.true)

pub returns : goal.returns
unfolding next_at
returns c = simp (lt-leb _ _ c.if-text-at.false, ← c.line_end-e.ensures, le-ltb _ _ c.if-e-text.false)
