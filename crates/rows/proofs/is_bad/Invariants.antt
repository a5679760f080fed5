-- `rows::is_bad` meets its contract. The loop's invariant: what was found, or is found from the row before on. Assumes nothing.
use Prim.Native.Nat.{◌-◌}
use mathlib.Core.Path.{◌≡◌}
use mathlib.Core.Bool.{◌||◌}
use lib.ListN.{take, drop}
use Rattle.rows.specs.Inside.{bad_rows}
use Rattle.rows.proofs.is_bad.Given as goal

abbrev pub invariant-loop-i : goal.invariant-loop-i
invariant-loop-i l = (l.bad || bad_rows (drop (l.i - 1) (take l.n l.rows))) ≡ bad_rows (take l.count l.rows)
