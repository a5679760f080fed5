-- `calls::marked` meets its contract: 11, or with one page more. Assumes nothing.
use mathlib.Core.Path.{refl, ap}
use Rattle.std.specs.Prelude.{Ok, Err}
use Rattle.fields.proofs.AnswerLaws.{handed-on}
use Rattle.frames.specs.Pages.{marked_of}
use Rattle.form.specs.Store.{with_array}
use Rattle.ready.specs.Ready.{ready_of, accepted}
use Rattle.ready.proofs.Prepared.{no-zero, nothing-accepted}
use Rattle.calls.proofs.Flushed.{marked-full, marked-fine}
use Rattle.calls.proofs.marked.Goals as goal

pub returns-in_err-touched : goal.returns-in_err-touched
returns-in_err-touched c =
    let a = c.args in
    let e = c.in_err-touched in
    marked-full a.s a.page (marked_of a.s.held.touched (Err e.field-0.0)) e.ensures _ (ap (ready_of a.s) (handed-on _ _ c.from_residual.ensures)) (no-zero e.field-0.0)

pub returns : goal.returns
unfolding with_array
returns c =
    let a = c.args in
    let t = c.in_ok-touched in
    marked-fine a.s a.page (marked_of a.s.held.touched (Ok t.touched)) t.ensures (accepted c.nothing.result) (nothing-accepted _ _ c.nothing.ensures) refl
