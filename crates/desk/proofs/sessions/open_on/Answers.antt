-- `desk::sessions::open_on`: the session's bytes where there is room for them; then what is wrong, or whether there was room.
use mathlib.Core.Path.{◌≡◌, sym, ap, ◌∙◌, subst}
use lib.Dec.{leb}
use lib.ListN.{length}
use Rattle.text.specs.Room.{put_at}
use Rattle.session.specs.Closings.{Closings}
use Rattle.session.specs.declared.Session.{Session}
use Rattle.session.proofs.Forcing.{closings-some}
use Rattle.desk.specs.SessionHead.{Fit, session_bytes}
use Rattle.desk.specs.OpenedBytes.{open_session, open_bytes}
use Rattle.desk.proofs.HeadBytes.{intact-fit}
use Rattle.desk.proofs.Opens.{session-intact, open-turned, open_done, no_room}
use Rattle.desk.proofs.sessions.open_on.Goals.{After-opening-o, After-placed-room}
use Rattle.desk.proofs.sessions.open_on.Goals as goal

-- the session that was opened fits
fits : (c : After-opening-o) → Fit c.opening-o.result.session
fits c =
    let a = c.args in
    subst (λ (s : Session). Fit s) (sym (c.opening-o.ensures.1 closings-some)) (intact-fit closings-some _ (session-intact a.number a.t a.model closings-some))

-- what the bytes are then
laid : (c : After-placed-room) → let a = c.args in
    (C : Closings) → c.placed-room.new.out ≡ open_bytes C a.number a.t a.model a.session.now
unfolding open_bytes
laid c C =
    let a = c.args in
    c.placed-room.ensures.1 ∙ ap (λ (s : Session). put_at (session_bytes s) a.session.now 0) (c.opening-o.ensures.1 C)

-- whether there was room
room : (c : After-placed-room) → let a = c.args in
    leb (length (session_bytes (open_session closings-some a.number a.t a.model))) (length a.session.now) ≡ c.placed-room.result
room c =
    let a = c.args in
    sym (c.placed-room.ensures.0 ∙ ap (λ (s : Session). leb (length (session_bytes s)) (length a.session.now)) (c.opening-o.ensures.1 closings-some))

pub placed-room-requires : goal.placed-room-requires
placed-room-requires c = fits (goal.at.placed-room-requires c).After-opening-o

pub returns-then-wrong-ne0 : goal.returns-then-wrong-ne0
returns-then-wrong-ne0 c =
    let a = c.args in
    (c.opening-o.ensures.0 ∙ sym (open-turned a.number a.t a.model a.session.now (λ z. c.if-wrong-ne0.true (c.opening-o.ensures.0 ∙ z))), laid (goal.at.returns-then-wrong-ne0 c).After-placed-room)

pub returns-then-room : goal.returns-then-room
returns-then-room c =
    let a = c.args in
    (sym (open_done a.number a.t a.model a.session.now (sym c.opening-o.ensures.0 ∙ c.if-wrong-ne0.false) closings-some (room (goal.at.returns-then-room c).After-placed-room ∙ c.if-room.true)), laid (goal.at.returns-then-room c).After-placed-room)

pub returns : goal.returns
returns c =
    let a = c.args in
    (sym (no_room a.number a.t a.model a.session.now (sym c.opening-o.ensures.0 ∙ c.if-wrong-ne0.false) closings-some (room (goal.at.returns c).After-placed-room ∙ c.if-room.false)), laid (goal.at.returns c).After-placed-room)
