-- `opens::record_all` meets its contract. The loop's invariant: recording the entries that are left gives what recording all gives, and the length stays
-- within the buffer. Assumes nothing.
use mathlib.Core.Path.{◌≡◌, ◌∙◌}
use Prim.Native.Nat.{◌≤◌, min}
use native.Mathlib.Omega.{arith}
use borrow.Author.Rules.{rules}
use lib.ListN.{length}
use Rattle.fields.proofs.FileLaws.{fit-means}
use Rattle.sorted.proofs.Laws.{take_min, length-of-mapped}
use Rattle.clog.specs.Slots.{record_all}
use Rattle.opens.proofs.Clogs.{put}
use Rattle.opens.proofs.record_all.Goals as goal

pub loop-i-init : goal.loop-i-init
loop-i-init c =
    let a = c.args in
    let m = fit-means _ _ _ c.requires.0 in
    let es : length a.t.entries ≡ 256 = search (rules, length-of-mapped) in
    let k : c.min-i.result ≡ min a.t.count 256 = search rules in
    (c.requires.1, m.1, rw (k, take_min a.t.entries a.t.count 256 es))

pub loop-i-preserved : goal.loop-i-preserved
loop-i-preserved c =
    let a = c.args in
    let l = c.loop-i in
    let i = l.invariant in
    let same : length l.clog ≡ length a.clog.now = l.auto.clog in
    let m = fit-means _ _ _ c.requires.0 in
    let es : length a.t.entries ≡ 256 = search (rules, length-of-mapped) in
    let k : l.i ≤ min a.t.count 256 = search rules in
    let p =
    put a.t.entries a.t.count l.i l.n l.clog (omega arith) (omega arith) (omega arith) (rw same c.requires.2) i.0 (rw same i.1)
    (rw same m.0) c.record.result c.record.new.clog c.record.ensures in
    rw c.unwrap_or-n.ensures (omega (arith, p.longer), omega (arith, p.within), p.same ∙ i.2)

pub returns : goal.returns
unfolding record_all
returns c =
    let l = c.loop-i in
    let z : l.i ≡ 0 = omega arith in
    rw z at l.invariant.2
