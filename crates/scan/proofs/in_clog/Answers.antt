-- `scan::in_clog` meets its contract: a clog with another magic holds nothing, a valid one what reading it tells. Assumes nothing.
use mathlib.Core.Path.{sym, ◌∙◌}
use native.Mathlib.Omega.{arith}
use lib.ListN.{length-take}
use Rattle.fields.specs.Files.{file_of}
use Rattle.fields.proofs.FileLaws.{fit-means}
use borrow.Author.Tests.{not-true, not-false}
use Rattle.clog.specs.Slots.{clog_magic, valid_clog}
use Rattle.scan.proofs.Surveys.{in-none, in-read}
use Rattle.scan.proofs.in_clog.Goals as goal

pub slice_bounds-s-end : goal.slice_bounds-s-end
slice_bounds-s-end c =
    let m = fit-means _ _ _ c.requires in
    simp length-take (omega (arith, m.1))

pub returns-then-not-begins : goal.returns-then-not-begins
unfolding clog_magic valid_clog
returns-then-not-begins c =
    let a = c.args in
    let b = c.begins in
    rw c.empty.ensures (in-none (file_of a.clog.now a.len) (sym b.ensures ∙ not-true b.result c.if-not-begins.true-raw))

pub returns : goal.returns
unfolding clog_magic valid_clog
returns c =
    let a = c.args in
    let v = sym c.begins.ensures ∙ not-false c.begins.result c.if-not-begins.false-raw in
    in-read (file_of a.clog.now a.len) c.requires v a.len c.read.result c.read.ensures
