-- `table::empty` meets its contract: what it makes is the definition. Assumes nothing.
use mathlib.Core.Path.{refl}
use Rattle.table.specs.Entries.{empty_table}
use Rattle.table.proofs.empty.Goals as goal

pub returns : goal.returns
unfolding empty_table
returns c = refl
