-- `hostpages::hand_out` meets its contract: the rows are copied over the front, and the rest stays. Assumes nothing.
use mathlib.Core.Path.{◌≡◌, refl, sym, ◌∙◌}
use Prim.Native.Nat.{min}
use native.Mathlib.Omega.{arith}
use lib.ListN.{length, take}
use Rattle.sorted.proofs.Laws.{take_min, length-min}
use Rattle.fields.proofs.Stored.{copied-in}
use Rattle.hostpages.proofs.hand_out.Goals as goal

pub returns : goal.returns
returns c =
    let a = c.args in
    let held : take c.min-k.result a.rows.now ≡ take a.n a.rows.now = rw c.min-k.ensures (take_min a.rows.now a.n 256 c.told-rows) in
    let size : length (take a.n a.rows.now) ≡ min a.n 256 = length-min a.rows.now a.n 256 c.told-rows in
    c.copy.ensures ∙ rw held (sym (copied-in a.out.now (take a.n a.rows.now) _ (omega (arith, size, c.requires)) refl))
