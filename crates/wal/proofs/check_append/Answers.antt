-- `wal::check_append` meets its contract. Assumes nothing.
use mathlib.Core.Path.{sym, ◌∙◌}
use native.Mathlib.Omega.{arith}
use Rattle.fields.proofs.FileLaws.{fit-means}
use Rattle.wal.proofs.WriteLaws.{append-1, append-10, append-4, append-0}
use Rattle.wal.proofs.check_append.Goals as goal

pub returns-then-is_unfit : goal.returns-then-is_unfit
returns-then-is_unfit c =
    let a = c.args in
    append-1 a.bad a.size a.cap a.len (sym c.is_unfit.ensures ∙ c.if-is_unfit.true)

pub returns-then-bad : goal.returns-then-bad
returns-then-bad c =
    let a = c.args in
    append-10 a.bad a.size a.cap a.len (sym c.is_unfit.ensures ∙ c.if-is_unfit.false) c.if-bad.true

pub overflow_sub-cap : goal.overflow_sub-cap
overflow_sub-cap c =
    let m = fit-means _ _ _ (sym c.is_unfit.ensures ∙ c.if-is_unfit.false) in
    omega arith

pub returns-then-cap-len : goal.returns-then-cap-len
returns-then-cap-len c =
    let a = c.args in
    append-4 a.bad a.size a.cap a.len (sym c.is_unfit.ensures ∙ c.if-is_unfit.false) c.if-bad.false c.if-cap-len.true

pub returns : goal.returns
returns c =
    let a = c.args in
    append-0 a.bad a.size a.cap a.len (sym c.is_unfit.ensures ∙ c.if-is_unfit.false) c.if-bad.false (omega arith)
