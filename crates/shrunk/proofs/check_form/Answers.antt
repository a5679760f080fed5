-- `shrunk::check_form` meets its contract: each test that fails decides. Assumes nothing.
use mathlib.Core.Path.{sym, ◌∙◌}
use lib.Seq.{length-take-le}
use Rattle.fields.specs.Files.{file_of}
use Rattle.fields.proofs.FileLaws.{fit-means}
use Rattle.shrunk.proofs.Ways.{form-unfit, form-misfit, form-passes}
use Rattle.shrunk.proofs.check_form.Goals as goal

pub returns-then-is_unfit : goal.returns-then-is_unfit
returns-then-is_unfit c =
    let a = c.args in
    sym (form-unfit (file_of a.second.now a.len) 0 (sym c.is_unfit.ensures ∙ c.if-is_unfit.true))

pub slice_bounds-is_misfit-end : goal.slice_bounds-is_misfit-end
slice_bounds-is_misfit-end c =
    let f = fit-means 1048576 _ _ (sym c.is_unfit.ensures ∙ c.if-is_unfit.false) in
    sym (length-take-le _ _ f.1)

pub returns-then-is_misfit : goal.returns-then-is_misfit
returns-then-is_misfit c =
    let a = c.args in
    sym (form-misfit (file_of a.second.now a.len) 0 (sym c.is_unfit.ensures ∙ c.if-is_unfit.false) (sym c.is_misfit.ensures ∙ c.if-is_misfit.true))

pub returns : goal.returns
returns c =
    let a = c.args in
    sym (form-passes (file_of a.second.now a.len) 0 (sym c.is_unfit.ensures ∙ c.if-is_unfit.false) (sym c.is_misfit.ensures ∙ c.if-is_misfit.false))
