-- `table::settle` meets its contract: what is lent to `settle_all` comes back settled, and the rest stays. Assumes nothing.
use mathlib.Core.Path.{◌≡◌, sym, ◌∙◌}
use mathlib.Core.List.{map}
use borrow.Author.Rules.{rules}
use lib.ListN.{length, take, length-map}
use Rattle.sorted.proofs.Laws.{take_min, length-min, length-of-mapped}
use Rattle.table.specs.Entries.{settled_entry, list_of, settled_table}
use Rattle.table.proofs.Laws.{laid-is}
use Rattle.table.proofs.settle.Goals as goal

pub returns : goal.returns
unfolding settled_table
returns c =
    let n = length c.held-n.result.now in
    let t = c.args.t in
    let len : length t.entries ≡ 256 = search (rules, length-of-mapped) in
    let size : length (map settled_entry (list_of t)) ≡ n = length-map (list_of t) settled_entry ∙ length-min t.entries t.count 256 len ∙ sym c.held-n.ensures.len in
    let all : take n t.entries ≡ list_of t = rw c.held-n.ensures.len (take_min t.entries t.count 256 len) in
    laid-is t _ n (map settled_entry (list_of t)) size (rw (c.settle_all.ensures, all, size))
