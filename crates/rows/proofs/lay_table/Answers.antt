-- `rows::lay_table` meets its contract. The loop's invariant: the first i rows are the table's, the others are as they were. Assumes nothing.
use borrow.Author.Rules.{rules}
use mathlib.Core.Path.{◌≡◌, ◌∙◌}
use native.Mathlib.Omega.{arith}
use Rattle.sorted.proofs.Laws.{length-of-mapped}
use lib.ListN.{length}
use Rattle.table.specs.Entries.{blank}
use Rattle.rows.proofs.Several.{table_on, table_done}
use Rattle.rows.proofs.lay_table.Goals as goal

pub loop-i-preserved : goal.loop-i-preserved
loop-i-preserved c =
    let l = c.loop-i in
    let a = c.args in
    let len : length a.rows.now ≡ 256 = search rules in
    let held256 : length a.t.entries ≡ 256 = search (rules, length-of-mapped) in
    rw (l.invariant, c.row_of.ensures) (table_on a.t.entries a.rows.now l.i blank (omega (arith, held256)) (omega arith))

pub returns : goal.returns
returns c =
    let l = c.loop-i in
    let a = c.args in
    l.invariant ∙ table_done a.t.entries a.rows.now a.t.count l.i (search (rules, length-of-mapped)) (omega (arith, c.min-i-end.ensures))
