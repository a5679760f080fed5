-- `leaves::nyotmelang_clog_record` meets its contract: the tag is none, or the call is made and its answer told. Assumes nothing.
use Rattle.fields.specs.Files.{file_of}
use Rattle.clog.specs.Calls.{recorded}
use Rattle.leaves.specs.Leaves.{recorded_tag}
use Rattle.leaves.proofs.Laws.{tag-none, tag-recorded}
use Rattle.leaves.proofs.nyotmelang_clog_record.Goals as goal

pub returns-then-status-gt2 : goal.returns-then-status-gt2
unfolding recorded_tag
returns-then-status-gt2 c =
    let a = c.args in
    tag-none 8 (file_of a.clog.now a.len) (recorded 8 0 (file_of a.clog.now a.len) a.id) a.status a.time _ _ _ c.if-status-gt2.true c.no_status.ensures c.tell.ensures

pub returns : goal.returns
unfolding recorded_tag
returns c =
    let a = c.args in
    tag-recorded 8 (file_of a.clog.now a.len) (recorded 8 0 (file_of a.clog.now a.len) a.id) a.status a.time c.status_in-s.result c.record.result _ _ _ c.if-status-gt2.false
    c.status_in-s.ensures c.record.ensures c.tell-2.ensures
