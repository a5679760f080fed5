-- `acts::carry_files` meets its contract: the stores, the pages that get their bytes back, page 0. Assumes nothing.
use Rattle.acts.proofs.Records.{files-out}
use Rattle.acts.proofs.carry_files.Goals as goal

pub returns : goal.returns
returns c =
    let a = c.args in
    let k = c.cut_at in
    let g = c.give_back in
    let f = c.lay_meta in
    files-out 4096 a.m a.log.now a.db.now a.clog.now a.frames.now k.new.log k.new.db k.new.clog k.result g.new.frames f.new.frames k.ensures g.ensures f.ensures
