-- `frames::fill_frame` meets its contract: in a slot past the buffer's end nothing is stored, and the page stored in the lent part is stored in the whole.
-- Assumes nothing.
use mathlib.Core.Path.{sym}
use Prim.Native.Nat.{◌*◌}
use native.Mathlib.Omega.{arith}
use Rattle.fields.specs.Files.{file_of}
use Rattle.fields.proofs.Stored.{sets-out, lent-tail}
use Rattle.frames.specs.Copies.{page_of}
use Rattle.frames.proofs.fill_frame.Goals as goal

pub returns-then-buf-slot : goal.returns-then-buf-slot
returns-then-buf-slot c =
    let a = c.args in
    sym (sets-out (page_of 4096 (file_of a.db.now a.len) a.page) a.buf.now (a.slot * 4096) (omega arith))

pub returns : goal.returns
returns c =
    let k = c.fill_page in
    let a = c.args in
    lent-tail (a.slot * 4096) a.buf.now k.new.b (page_of 4096 (file_of a.db.now a.len) a.page) (omega arith) k.ensures
