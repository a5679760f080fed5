-- `frames::frame_of` meets its contract: what is stored over a whole page is the page. Assumes nothing.
use mathlib.Core.Path.{◌∙◌}
use Prim.Native.Nat.{◌*◌}
use lib.ListN.{replicate}
use Rattle.fields.specs.Bytes.{part}
use Rattle.fields.proofs.ByteLaws.{length_part}
use Rattle.frames.proofs.CopyLaws.{stored-whole}
use Rattle.frames.proofs.frame_of.Goals as goal

pub returns : goal.returns
returns c =
    let a = c.args in
    c.copy_frame.ensures
    ∙ stored-whole (part 4096 a.buf.now (a.slot * 4096)) (replicate 4096 0) (length_part 4096 a.buf.now (a.slot * 4096))
