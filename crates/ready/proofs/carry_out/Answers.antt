-- `ready::carry_out` meets its contract: the stores, the pages that get their bytes back, page 0. Assumes nothing.
use Rattle.fields.specs.Files.{file_of}
use Rattle.ready.specs.Ready.{cut_as, with_lens}
use Rattle.ready.proofs.Prepared.{framed-out, carried-done}
use Rattle.ready.proofs.carry_out.Goals as goal

pub returns : goal.returns
unfolding with_lens
returns c =
    let a = c.args in
    let k = c.cut_at in
    let g = c.give_back in
    let f = c.lay_meta in
    let fine = framed-out 4096 (file_of k.new.db k.result.value.db) a.r a.frames.now g.new.frames f.new.frames g.ensures f.ensures in
    carried-done 4096 a.r a.frames.now a.log.now a.db.now a.clog.now (cut_as k.result) k.new.log k.new.db k.new.clog
    f.new.frames k.ensures fine
