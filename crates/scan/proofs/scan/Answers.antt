-- `scan::scan` meets its contract. The loop's invariant: what is found so far, with what the records from the place on add to it, is what the whole log has.
-- The measure is how many bytes are left. Assumes nothing.
use mathlib.Core.Path.{sym, ◌∙◌}
use native.Mathlib.Omega.{arith}
use Rattle.fields.specs.Files.{file_of}
use Rattle.scan.specs.Scans.{scanned_of, scanned}
use Rattle.scan.proofs.Turns.{onto-start, start-within, ahead, moved, scan-done}
use Rattle.scan.proofs.scan.Goals as goal

pub returns-then-is_unfit : goal.returns-then-is_unfit
unfolding scanned
returns-then-is_unfit c =
    let a = c.args in
    let u = sym c.is_unfit.ensures ∙ c.if-is_unfit.true in
    c.unread.ensures ∙ rw u

pub loop-at-init : goal.loop-at-init
loop-at-init c =
    let s = c.start_of-at in
    let a = c.args in
    let u = sym c.is_unfit.ensures ∙ c.if-is_unfit.false in
    rw (s.ensures, c.unread-s.ensures) (start-within 4096 a.log.now a.len u, onto-start 4096 a.db a.clog (file_of a.log.now a.len))

pub loop-at-smaller : goal.loop-at-smaller
loop-at-smaller c =
    let a = c.args in
    let u = sym c.is_unfit.ensures ∙ c.if-is_unfit.false in
    let r = c.read_record-r in
    let m = ahead 4096 a.log.now a.len u c.loop-at.at r.result (omega arith) r.ensures in
    rw c.next_place-at.ensures (omega (arith, m.further, m.within))

pub loop-at-preserved : goal.loop-at-preserved
loop-at-preserved c =
    let a = c.args in
    let u = sym c.is_unfit.ensures ∙ c.if-is_unfit.false in
    let r = c.read_record-r in
    let m = ahead 4096 a.log.now a.len u c.loop-at.at r.result (omega arith) r.ensures in
    let k = moved 4096 a.log.now a.len u c.loop-at.at r.result (omega arith) r.ensures a.db a.clog (scanned_of c.loop-at.s) in
    rw (c.next_place-at.ensures, c.on_read-s.ensures) (m.within, k ∙ c.loop-at.invariant.1)

pub returns : goal.returns
returns c =
    let l = c.loop-at in
    let a = c.args in
    let u = sym c.is_unfit.ensures ∙ c.if-is_unfit.false in
    scan-done 4096 a.log.now a.len u a.db a.clog l.at (scanned_of l.s) (omega arith) l.invariant.1
