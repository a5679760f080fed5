-- `meta::check_format` meets its contract: each way out is a law of proofs/Laws.antt. Assumes nothing.
use mathlib.Core.Path.{sym, ◌∙◌}
use mathlib.Core.Logic.{inl, inr}
use Prim.Native.Nat.{◌≤◌}
use native.Mathlib.Omega.{arith}
use borrow.Author.Tests.{not-true, not-false}
use lib.ListN.{length, length-take}
use Rattle.fields.proofs.FileLaws.{fit-means}
use Rattle.meta.proofs.Laws.{version-either, version-other, format-unfit, format-none, format-good, format-bad}
use Rattle.meta.proofs.check_format.Goals as goal

pub returns-then-is_unfit : goal.returns-then-is_unfit
returns-then-is_unfit c = sym (format-unfit 4096 _ (sym c.is_unfit.ensures ∙ c.if-is_unfit.true))

pub slice_bounds-s-end : goal.slice_bounds-s-end
slice_bounds-s-end c =
    let a = c.args in
    let h : a.len ≤ length a.db.now = (fit-means _ _ _ (sym c.is_unfit.ensures ∙ c.if-is_unfit.false)).1 in
    simp length-take (omega arith)

pub returns-then-not-has_meta : goal.returns-then-not-has_meta
returns-then-not-has_meta c =
    sym (format-none 4096 _ (sym c.is_unfit.ensures ∙ c.if-is_unfit.false) (sym c.has_meta.ensures ∙ not-true c.has_meta.result c.if-not-has_meta.true-raw))

pub returns-in-0 : goal.returns-in-0
returns-in-0 c =
    sym (format-good 4096 _ (sym c.is_unfit.ensures ∙ c.if-is_unfit.false) (sym c.has_meta.ensures ∙ not-false c.has_meta.result c.if-not-has_meta.false-raw)
    (version-either _ _ c.get_u32.ensures c.in-0.is))

pub returns-in_default : goal.returns-in_default
returns-in_default c =
    let e = c.get_u32.ensures in
    let r = c.in_default.in_default-own.rest in
    sym (format-bad 4096 _ (sym c.is_unfit.ensures ∙ c.if-is_unfit.false) (sym c.has_meta.ensures ∙ not-false c.has_meta.result c.if-not-has_meta.false-raw)
    (version-other _ (λ z. r.1 (inl (e ∙ z))) (λ z. r.1 (inr (e ∙ z)))))
