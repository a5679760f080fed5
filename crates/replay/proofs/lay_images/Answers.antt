-- `replay::lay_images` meets its contract. The loop's invariant: laying the images of the records from the place on gives what laying all gives.
-- The measure is how many bytes are left. Assumes nothing.
use mathlib.Core.Path.{refl, sym, ◌∙◌}
use native.Mathlib.Omega.{arith}
use lib.Dec.{lit<}
use Rattle.fields.specs.Files.{file_of}
use Rattle.scan.proofs.Turns.{start-within, ahead}
use Rattle.replay.proofs.Laws.{laid-turn, laid-unfit, laid-start, laid_done}
use Rattle.replay.proofs.lay_images.Goals as goal

pub returns-then-is_unfit : goal.returns-then-is_unfit
returns-then-is_unfit c =
    let a = c.args in
    laid-unfit 4096 (file_of a.log.now a.end) (file_of a.db.now a.len) (sym c.is_unfit.ensures ∙ c.if-is_unfit.true)

pub loop-at-init : goal.loop-at-init
loop-at-init c =
    let a = c.args in
    let u = sym c.is_unfit.ensures ∙ c.if-is_unfit.false in
    let s = start-within 4096 a.log.now a.end u in
    rw c.start_of-at.ensures (s, refl, laid-start 4096 (file_of a.log.now a.end) (file_of a.db.now a.len) u)

pub loop-at-smaller : goal.loop-at-smaller
loop-at-smaller c =
    let a = c.args in
    let u = sym c.is_unfit.ensures ∙ c.if-is_unfit.false in
    let m = ahead 4096 a.log.now a.end u c.loop-at.at c.read_record-r.result (omega arith) c.read_record-r.ensures in
    rw c.next_place-at.ensures (omega (arith, m.further, m.within))

pub loop-at-preserved : goal.loop-at-preserved
loop-at-preserved c =
    let a = c.args in
    let u = sym c.is_unfit.ensures ∙ c.if-is_unfit.false in
    let m = ahead 4096 a.log.now a.end u c.loop-at.at c.read_record-r.result (omega arith) c.read_record-r.ensures in
    let b = c.image-bytes.ensures.bytes in
    let k =
    laid-turn 4096 a.log.now a.end c.loop-at.at u (omega arith) (lit< tt) c.read_record-r.result c.read_record-r.ensures
    (file_of c.loop-at.db c.loop-at.n) in
    rw (c.next_place-at.ensures, c.lay_page-n.ensures, c.read_page.ensures, b)
    (m.within, c.lay_page-n.auto.db ∙ c.loop-at.invariant.1, k ∙ c.loop-at.invariant.2)

pub returns : goal.returns
returns c =
    let l = c.loop-at in
    let a = c.args in
    laid_done 4096 a.log.now a.end l.at (file_of l.db l.n) _ (omega arith) l.invariant.2
