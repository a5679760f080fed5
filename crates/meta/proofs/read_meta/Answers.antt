-- `meta::read_meta` meets its contract: each way out is a law of proofs/Laws.antt. Assumes nothing.
use mathlib.Core.Path.{sym, ◌∙◌}
use Prim.Native.Nat.{◌≤◌}
use native.Mathlib.Omega.{arith}
use borrow.Author.Tests.{not-true, not-false}
use lib.ListN.{length, length-take}
use Rattle.fields.proofs.FileLaws.{fit-means}
use Rattle.meta.proofs.Laws.{read-unfit, read_none, read_some}
use Rattle.meta.proofs.read_meta.Goals as goal

pub returns-then-is_unfit : goal.returns-then-is_unfit
returns-then-is_unfit c = sym (read-unfit 4096 _ (sym c.is_unfit.ensures ∙ c.if-is_unfit.true))

pub slice_bounds-s-end : goal.slice_bounds-s-end
slice_bounds-s-end c =
    let a = c.args in
    let h : a.len ≤ length a.db.now = (fit-means _ _ _ (sym c.is_unfit.ensures ∙ c.if-is_unfit.false)).1 in
    simp length-take (omega arith)

pub returns-then-not-has_meta : goal.returns-then-not-has_meta
returns-then-not-has_meta c =
    sym (read_none 4096 _ (sym c.is_unfit.ensures ∙ c.if-is_unfit.false) (sym c.has_meta.ensures ∙ not-true c.has_meta.result c.if-not-has_meta.true-raw))

pub returns : goal.returns
returns c =
    rw (c.get_u64.ensures, c.get_u64-2.ensures, c.get_u64-3.ensures)
    (sym (read_some 4096 _ (sym c.is_unfit.ensures ∙ c.if-is_unfit.false) (sym c.has_meta.ensures ∙ not-false c.has_meta.result c.if-not-has_meta.false-raw)))
