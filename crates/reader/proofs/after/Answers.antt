-- `reader::after` meets its contract: each arm is given which answer the reading gave, and the reading's contract says where to read next. Assumes nothing.
use Rattle.fields.specs.Files.{file_of}
use Rattle.reader.proofs.PlaceLaws.{next-after}
use Rattle.reader.proofs.after.Goals as goal

pub returns-in-Found : goal.returns-in-Found
returns-in-Found c =
    let a = c.args in
    next-after 4096 (file_of a.log.now a.len) a.at _ _ c.in-Found.is c.read_record.ensures

pub returns-in-End : goal.returns-in-End
returns-in-End c =
    let a = c.args in
    next-after 4096 (file_of a.log.now a.len) a.at _ _ c.in-End.is c.read_record.ensures

pub returns-in-Torn : goal.returns-in-Torn
returns-in-Torn c =
    let a = c.args in
    next-after 4096 (file_of a.log.now a.len) a.at _ _ c.in-Torn.is c.read_record.ensures

pub returns-in-Unknown : goal.returns-in-Unknown
returns-in-Unknown c =
    let a = c.args in
    next-after 4096 (file_of a.log.now a.len) a.at _ _ c.in-Unknown.is c.read_record.ensures

pub returns-in-Outside : goal.returns-in-Outside
returns-in-Outside c =
    let a = c.args in
    next-after 4096 (file_of a.log.now a.len) a.at _ _ c.in-Outside.is c.read_record.ensures
