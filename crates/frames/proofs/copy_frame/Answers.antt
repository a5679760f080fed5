-- `frames::copy_frame` meets its contract: a slot past the buffer's end reads as zeros. Assumes nothing.
use Prim.Native.Nat.{◌*◌}
use native.Mathlib.Omega.{arith}
use Rattle.frames.proofs.CopyLaws.{part_out}
use Rattle.frames.proofs.copy_frame.Goals as goal

pub returns-then-buf-slot : goal.returns-then-buf-slot
returns-then-buf-slot c =
    let a = c.args in
    rw (part_out 4096 a.buf.now (a.slot * 4096) (omega arith)) c.zero_fill.ensures

pub returns : goal.returns
returns c = c.fill_part.ensures
