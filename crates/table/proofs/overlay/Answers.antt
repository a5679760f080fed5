-- `table::overlay` meets its contract. The loop's invariant is `Carried` of proofs/Laws.antt: setting what is left in the table carried gives what setting all
-- in the first one gives. Assumes nothing.
use mathlib.Core.Path.{◌≡◌, refl}
use borrow.Author.Rules.{rules}
use lib.ListN.{length, drop_of_length-le}
use Rattle.std.proofs.lemmas.Result.{err_from_is_err_and}
use Rattle.sorted.proofs.Laws.{at-turn, length-of-mapped}
use Rattle.table.specs.Entries.{blank}
use Rattle.table.proofs.Laws.{carried_none, carried-more, carried-stop, carried-all}
use Rattle.table.proofs.overlay.Goals as goal

pub loop-e-init : goal.loop-e-init
loop-e-init c =
    let t = c.args.t in
    let len : length t.entries ≡ 256 = search (rules, length-of-mapped) in
    carried_none 256 t c.held-e-items.result.now _ len c.held-count.ensures.len

pub returns-in_err-u : goal.returns-in_err-u
returns-in_err-u c =
    let l = c.loop-e in
    let p = err_from_is_err_and c.from_residual.result c.from_residual.ensures.1 in
    rw (p.1, p.2)
    (carried-stop 256 _ _ _ _ l.u _ _ c.held-e-items.ensures.list (rw (at-turn _ l.e-index blank c.loop-e-test.true) at l.invariant) c.in_err-u.ensures)

pub loop-e-preserved : goal.loop-e-preserved
loop-e-preserved c =
    let l = c.loop-e in
    carried-more 256 _ _ _ l.u _ (record { number = 0; table = c.in_ok-u.u }) (rw (at-turn _ l.e-index blank c.loop-e-test.true) at l.invariant) c.in_ok-u.ensures refl

pub returns : goal.returns
returns c =
    let l = c.loop-e in
    carried-all 256 _ _ l.u (rw (drop_of_length-le _ {i = l.e-index} c.loop-e-test.false, c.held-e-items.ensures.list) at l.invariant)
