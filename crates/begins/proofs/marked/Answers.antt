-- `begins::marked` meets its contract: 11, or with one page more. Assumes nothing.
use mathlib.Core.Path.{refl}
use Rattle.fields.specs.Refusals.{number_of}
use Rattle.acts.proofs.Laws.{handed-made, bare-accepted}
use Rattle.begins.proofs.Flushed.{marked-full, marked-fine}
use Rattle.begins.proofs.marked.Goals as goal

pub returns-in_err-check_mark : goal.returns-in_err-check_mark
returns-in_err-check_mark c =
    let a = c.args in
    let r = c.in_err-check_mark.field-0.0 in
    marked-full a.h a.touched.now a.page (record { number = number_of r; count = a.h.touched }) c.in_err-check_mark.ensures _ r (handed-made a.h _ _ c.from_residual.ensures) refl

pub returns : goal.returns
returns c =
    let a = c.args in
    marked-fine a.h a.touched.now a.page _ c.in_ok-check_mark.ensures _ (bare-accepted _ _ _ c.bare.ensures) refl
