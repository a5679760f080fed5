-- `keyon::record_all` meets its contract. The loop's invariant: recording the entries that are left gives what recording all gives, and the length stays within the buffer. Assumes nothing.
use borrow.Author.Rules.{rules}
use mathlib.Core.Path.{◌≡◌, sym, ap, ◌∙◌}
use mathlib.Core.List.{map}
use Prim.Native.Nat.{◌-◌, ◌≤◌, min}
use native.Mathlib.Omega.{arith}
use lib.ListN.{length, length-map}
use Rattle.fields.specs.Files.{file_of}
use Rattle.fields.proofs.FileLaws.{fit-means}
use Rattle.sorted.proofs.Laws.{take_min}
use Rattle.table.specs.declared.Entry.{Entry}
use Rattle.table.specs.Entries.{id_of}
use Rattle.rows.specs.Rows.{entry_of}
use Rattle.clog.specs.Slots.{code_of, record_all}
use Rattle.clog.specs.Calls.{recorded}
use Rattle.opens.proofs.Clogs.{put}
use Rattle.keyon.proofs.Tables.{entry-there}
use Rattle.keyon.proofs.record_all.Goals as goal

pub loop-i-init : goal.loop-i-init
loop-i-init c =
    let a = c.args in
    let m = fit-means _ _ _ c.requires.0 in
    let len : length a.rows.now ≡ 256 = search rules in
    let es : length (map entry_of a.rows.now) ≡ 256 = length-map a.rows.now entry_of ∙ len in
    let k : c.min-i.result ≡ min a.count 256 = search rules in
    (c.requires.1, m.1, rw (k, take_min (map entry_of a.rows.now) a.count 256 es))

pub loop-i-preserved : goal.loop-i-preserved
loop-i-preserved c =
    let a = c.args in
    let l = c.loop-i in
    let i = l.invariant in
    let same : length l.clog ≡ length a.clog.now = l.auto.clog in
    let m = fit-means _ _ _ c.requires.0 in
    let len : length a.rows.now ≡ 256 = search rules in
    let es : length (map entry_of a.rows.now) ≡ 256 = length-map a.rows.now entry_of ∙ len in
    let k : l.i ≤ min a.count 256 = search rules in
    let x = c.entry_at-e.ensures ∙ sym (entry-there a.rows.now (l.i - 1)) in
    let g = c.record.ensures ∙ ap (λ (y : Entry). recorded 8 0 (file_of l.clog l.n) (id_of y) (code_of y.status)) x in
    let p =
    put (map entry_of a.rows.now) a.count l.i l.n l.clog (omega arith) (omega arith) (omega arith) (rw same c.requires.2) i.0 (rw same i.1)
    (rw same m.0) c.record.result c.record.new.clog g in
    rw c.unwrap_or-n.ensures (omega (arith, p.longer), omega (arith, p.within), p.same ∙ i.2)

pub returns : goal.returns
unfolding record_all
returns c =
    let l = c.loop-i in
    let z : l.i ≡ 0 = omega arith in
    rw z at l.invariant.2
