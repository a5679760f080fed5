-- `wal::start_of` meets its contract. Assumes nothing.
use mathlib.Core.Path.{sym, ◌∙◌}
use Rattle.wal.specs.Records.{log_magic}
use Rattle.wal.proofs.ReadLaws.{start-magic, start_none}
use Rattle.wal.proofs.start_of.Goals as goal

pub returns-then-begins : goal.returns-then-begins
unfolding log_magic
returns-then-begins c =
    let a = c.args in
    start-magic a.log.now a.len c.min-end.result c.min-end.ensures (sym c.begins.ensures ∙ c.if-begins.true)

pub returns : goal.returns
unfolding log_magic
returns c =
    let a = c.args in
    start_none a.log.now a.len c.min-end.result c.min-end.ensures (sym c.begins.ensures ∙ c.if-begins.false)
