-- `acts::carry_out` meets its contract: the stores and the frames, then the arrays. Assumes nothing.
use mathlib.Core.Path.{refl}
use Rattle.acts.specs.Made.{lens_head}
use Rattle.acts.proofs.Records.{whole_out}
use Rattle.acts.proofs.carry_out.Goals as goal

pub returns : goal.returns
unfolding lens_head
returns c =
    let a = c.args in
    let k = c.carry_files-end in
    let x = c.change_arrays-after in
    whole_out 4096 a.m a.rows.now a.resident.now a.touched.now a.log.now a.db.now a.clog.now a.frames.now _ k.result x.result
    x.new.rows x.new.resident x.new.touched k.new.log k.new.db k.new.clog k.new.frames
    refl k.ensures x.ensures
