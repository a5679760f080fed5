-- `frames::fill_part` meets its contract: none, some or all of the page's bytes lie in the source. Assumes nothing.
use mathlib.Core.Path.{refl}
use Prim.Native.Nat.{◌+◌, ◌-◌}
use native.Mathlib.Omega.{arith}
use lib.ListN.{length}
use Rattle.frames.proofs.CopyLaws.{filled_none, filled-some, filled-all}
use Rattle.frames.proofs.fill_part.Goals as goal

pub returns-then-src-at : goal.returns-then-src-at
returns-then-src-at c =
    let k = c.zero_fill in
    let a = c.args in
    filled_none 4096 a.b.now k.new.b a.src.now a.at c.if-src-at.true k.ensures

pub returns-then-n-lt-PAGE_SIZE : goal.returns-then-n-lt-PAGE_SIZE
returns-then-n-lt-PAGE_SIZE c =
    let z = c.zero_fill-then-n-lt-PAGE_SIZE in
    let a = c.args in
    filled-some 4096 a.b.now c.copy.new.dst z.new.b a.src.now a.at (length a.src.now - a.at) refl c.if-n-lt-PAGE_SIZE.true c.copy.ensures z.ensures

pub returns : goal.returns
returns c =
    let k = c.copy-2 in
    let a = c.args in
    filled-all 4096 a.b.now k.new.dst a.src.now a.at (a.at + 4096 - a.at) (omega arith) (omega arith) k.ensures
