-- `opens::stop` meets its contract: a bad record lays the images, another refusal does nothing. Assumes nothing.
use Rattle.fields.specs.Files.{file_of}
use Rattle.opens.proofs.Ways.{stops-torn, stops-unknown, stops-refused}
use Rattle.opens.proofs.stop.Goals as goal

pub returns-in-Torn : goal.returns-in-Torn
returns-in-Torn c =
    let l = c.lay_images in
    stops-torn 4096 _ _ _ (file_of l.new.db l.result) c.in-Torn.is l.ensures

pub returns-in-UnknownTag : goal.returns-in-UnknownTag
returns-in-UnknownTag c =
    let l = c.lay_images-in-UnknownTag in
    stops-unknown 4096 _ _ _ (file_of l.new.db l.result) c.in-UnknownTag.is l.ensures

pub returns-in_default : goal.returns-in_default
returns-in_default c =
    let a = c.args in
    stops-refused 4096 a.r (file_of a.log.now a.end) (file_of a.db.now a.len) c.in_default.not-Torn c.in_default.not-UnknownTag
