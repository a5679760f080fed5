-- `sweeps::list` meets its contract: a law for each way out. Assumes nothing.
use mathlib.Core.Path.{sym, ◌∙◌}
use native.Mathlib.Omega.{arith}
use lib.ListN.{length-take}
use lib.Seq.{length-take-le}
use borrow.Author.Tests.{not-true, not-false}
use Rattle.fields.specs.Files.{file_of}
use Rattle.fields.proofs.FileLaws.{fit-means}
use Rattle.clog.specs.Slots.{clog_magic, valid_clog}
use Rattle.clog.proofs.TableLaws.{valid-long}
use Rattle.sweeps.proofs.Laws.{listed-unfit, listed-none, listed-held}
use Rattle.sweeps.proofs.list.Goals as goal

pub returns-then-is_unfit : goal.returns-then-is_unfit
returns-then-is_unfit c =
    let a = c.args in
    rw c.number.ensures (listed-unfit (file_of a.clog.now a.len) a.rows.now (sym c.is_unfit.ensures ∙ c.if-is_unfit.true))

pub slice_bounds-s-end : goal.slice_bounds-s-end
slice_bounds-s-end c =
    let m = fit-means _ _ _ (sym c.is_unfit.ensures ∙ c.if-is_unfit.false) in
    simp length-take (omega (arith, m.1))

pub returns-then-not-begins : goal.returns-then-not-begins
unfolding clog_magic valid_clog
returns-then-not-begins c =
    let a = c.args in
    let b = c.begins in
    listed-none (file_of a.clog.now a.len) a.rows.now (sym c.is_unfit.ensures ∙ c.if-is_unfit.false) (sym b.ensures ∙ not-true b.result c.if-not-begins.true-raw)

pub list_in-requires : goal.list_in-requires
unfolding clog_magic valid_clog
list_in-requires c =
    let a = c.args in
    let b = c.begins in
    let m = fit-means _ _ _ (sym c.is_unfit.ensures ∙ c.if-is_unfit.false) in
    let v = sym b.ensures ∙ not-false b.result c.if-not-begins.false-raw in
    let n = length-take-le a.len a.clog.now m.1 in
    (omega (arith, n, valid-long (file_of a.clog.now a.len) v), omega (arith, n, m.0, m.1))

pub returns : goal.returns
unfolding clog_magic valid_clog
returns c =
    let a = c.args in
    let b = c.begins in
    let v = sym b.ensures ∙ not-false b.result c.if-not-begins.false-raw in
    listed-held (file_of a.clog.now a.len) a.rows.now (sym c.is_unfit.ensures ∙ c.if-is_unfit.false) v _ c.list_in.ensures
