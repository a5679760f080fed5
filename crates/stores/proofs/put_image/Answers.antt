-- `stores::put_image` meets its contract: tag, number, frame. Assumes nothing.
use Rattle.stores.proofs.StepLaws.{image-file}
use Rattle.wal.proofs.WriteLaws.{page-laid}
use Rattle.frames.proofs.CopyLaws.{length-frame}
use Rattle.frames.specs.Copies.{frame_of}
use lib.ListN.{length-set}
use mathlib.Core.Path.{◌∙◌}
use Rattle.stores.proofs.put_image.Goals as goal

pub shape_of-log : goal.shape_of-log
shape_of-log c = c.lay_frame.auto.b ∙ (c.put_u32.auto.b ∙ simp length-set)

pub returns : goal.returns
returns c =
    let k = c.lay_frame in
    let u = c.put_u32 in
    let a = c.args in
    let ys = frame_of 4096 a.frames.now a.slot in
    image-file 4096 a.page ys a.log.now k.new.b a.len (length-frame 4096 a.frames.now a.slot)
    (page-laid a.len a.page ys a.log.now u.new.b k.new.b u.ensures k.ensures)
