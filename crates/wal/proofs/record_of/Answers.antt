-- `wal::record_of` meets its contract: each arm reads the fields of the record that the tag names. Assumes nothing.
use mathlib.Core.Path.{◌∙◌}
use lib.ListN.{drop}
use lib.Seq.{drop-drop}
use Rattle.wal.proofs.RecordLaws.{is-five}
use Rattle.wal.proofs.ReadLaws.{is-image, is-begin, is-commit, is-abort, is-checkpoint}
use Rattle.wal.proofs.record_of.Goals as goal

pub returns-in-1 : goal.returns-in-1
returns-in-1 c =
    let a = c.args in
    is-image 4096 _ a.body (drop a.body a.s.now) _ c.in-1.is c.get_u32.ensures

pub returns-in-2 : goal.returns-in-2
returns-in-2 c =
    let a = c.args in
    is-begin 4096 _ a.body (drop a.body a.s.now) _ c.in-2.is c.get_u64.ensures

pub returns-in-3 : goal.returns-in-3
returns-in-3 c =
    let a = c.args in
    is-commit 4096 _ a.body (drop a.body a.s.now) _ _ c.in-3.is c.get_u64-in-3.ensures (c.get_u64-in-3-2.ensures ∙ rw drop-drop)

pub returns-in-4 : goal.returns-in-4
returns-in-4 c =
    let a = c.args in
    is-abort 4096 _ a.body (drop a.body a.s.now) _ c.in-4.is c.get_u64-in-4.ensures

pub returns-in_default : goal.returns-in_default
returns-in_default c =
    let a = c.args in
    let r = c.in_default.in_default-own.rest in
    let p = c.requires in
    is-checkpoint 4096 _ a.body (drop a.body a.s.now) (is-five _ p.0 p.1 r.0.0.0.1 r.0.0.1 r.0.1 r.1)
