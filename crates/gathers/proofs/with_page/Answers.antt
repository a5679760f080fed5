-- `gathers::with_page` meets its contract. Assumes nothing.
use borrow.Author.Tests.{not-true, not-false}
use Rattle.picks.proofs.Laws.{seat-no, seat-none, seat-some}
use Rattle.gathers.proofs.with_page.Goals as goal

pub returns-then-not-want : goal.returns-then-not-want
returns-then-not-want c = let a = c.args in seat-no a.want a.page _ a.p (not-true a.want c.if-not-want.true-raw)

pub returns-in_default : goal.returns-in_default
returns-in_default c =
    let a = c.args in
    seat-none a.want a.page a.place a.p c.in_default.is

pub returns : goal.returns
returns c =
    let a = c.args in
    let f = c.in-Some.is in
    rw (seat-some a.want a.page _ a.place (not-false _ c.if-not-want.false-raw) f)
