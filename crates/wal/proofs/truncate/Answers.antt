-- `wal::truncate` meets its contract. Assumes nothing.
use mathlib.Core.Path.{sym, ◌∙◌}
use native.Mathlib.Omega.{arith}
use Rattle.wal.specs.Records.{log_magic}
use Rattle.wal.proofs.WriteLaws.{truncate-1, truncate-4, truncate-0}
use Rattle.wal.proofs.truncate.Goals as goal

pub returns-then-is_unfit : goal.returns-then-is_unfit
returns-then-is_unfit c =
    let a = c.args in
    truncate-1 a.log.now a.len (sym c.is_unfit.ensures ∙ c.if-is_unfit.true)

pub returns-then-log-lt-HEADER : goal.returns-then-log-lt-HEADER
returns-then-log-lt-HEADER c =
    let a = c.args in
    truncate-4 a.log.now a.len (sym c.is_unfit.ensures ∙ c.if-is_unfit.false) c.if-log-lt-HEADER.true

pub returns : goal.returns
unfolding log_magic
returns c =
    let a = c.args in
    truncate-0 a.log.now a.len c.lay.new.b (sym c.is_unfit.ensures ∙ c.if-is_unfit.false) (omega arith) c.lay.ensures
