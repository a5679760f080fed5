-- `rows::entry_at` meets its contract. Assumes nothing.
use borrow.Author.Rules.{rules}
use mathlib.Core.Path.{◌≡◌}
use mathlib.Core.List.{[]}
use native.Mathlib.Omega.{arith}
use lib.ListN.{length, get_or-eq_default}
use Rattle.rows.specs.Rows.{status_in}
use Rattle.rows.proofs.entry_at.Goals as goal

pub returns-then-i-ge-LIMIT : goal.returns-then-i-ge-LIMIT
unfolding status_in
returns-then-i-ge-LIMIT c =
    let a = c.args in
    let len : length a.rows.now ≡ 256 = search rules in
    rw (get_or-eq_default a.rows.now [] {n = a.i} (omega arith))
