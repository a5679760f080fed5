-- `frames::put_frame` meets its contract: in a slot past the buffer's end nothing is stored. Assumes nothing.
use mathlib.Core.Path.{sym}
use Prim.Native.Nat.{◌*◌}
use native.Mathlib.Omega.{arith}
use Rattle.fields.proofs.Stored.{sets-out}
use Rattle.frames.proofs.put_frame.Goals as goal

pub returns-then-buf-slot : goal.returns-then-buf-slot
returns-then-buf-slot c =
    let a = c.args in
    sym (sets-out a.bytes.now a.buf.now (a.slot * 4096) (omega arith))
