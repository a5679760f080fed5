-- `leaves::nyotmelang_second_record` meets its contract: the tag is none, or the call is made and its answer told. Assumes nothing.
use Rattle.fields.specs.Files.{file_of}
use Rattle.shrunk.specs.Calls.{recorded_second}
use Rattle.leaves.specs.Leaves.{recorded_second_tag}
use Rattle.leaves.proofs.Laws.{tag-none, tag-recorded}
use Rattle.leaves.proofs.nyotmelang_second_record.Goals as goal

pub returns-then-status-gt2 : goal.returns-then-status-gt2
unfolding recorded_second_tag
returns-then-status-gt2 c =
    let a = c.args in
    tag-none 13 (file_of a.second.now a.len) (recorded_second (file_of a.second.now a.len) a.id) a.status a.time _ _ _ c.if-status-gt2.true c.no_status.ensures c.tell.ensures

pub returns : goal.returns
unfolding recorded_second_tag
returns c =
    let a = c.args in
    tag-recorded 13 (file_of a.second.now a.len) (recorded_second (file_of a.second.now a.len) a.id) a.status a.time c.status_in-taken.result c.record.result _ _ _ c.if-status-gt2.false
    c.status_in-taken.ensures c.record.ensures c.tell-2.ensures
