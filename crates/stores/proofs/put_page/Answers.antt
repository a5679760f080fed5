-- `stores::put_page` meets its contract: the gap, then the frame. Assumes nothing.
use Rattle.stores.proofs.StepLaws.{page-file}
use Rattle.frames.proofs.CopyLaws.{length-frame}
use Rattle.frames.specs.Copies.{frame_of}
use Prim.Native.Nat.{◌*◌}
use Rattle.stores.proofs.put_page.Goals as goal

pub returns : goal.returns
returns c =
    let k = c.lay_frame in
    let z = c.zero_fill in
    let a = c.args in
    page-file 4096 (a.page * 4096) c.max.result a.len (frame_of 4096 a.frames.now a.slot) a.db.now z.new.b k.new.b (length-frame 4096 a.frames.now a.slot) z.ensures k.ensures c.max.ensures
