-- `stores::check_stores` meets its contract: form first, then room. Assumes nothing.
use Rattle.std.proofs.Common.{[], drop, sym, ap, ◌∙◌}
use Rattle.fields.specs.Refusals.{number_in}
use Rattle.fields.proofs.AnswerLaws.{handed-on}
use Rattle.stores.specs.declared.Needs.{Needs}
use Rattle.stores.specs.Plans.{meant}
use Rattle.stores.specs.Inside.{needs_of, short_no}
use Rattle.stores.proofs.RoomLaws.{or_else-refused, formed-log}
use Rattle.stores.proofs.check_stores.Goals as goal

pub returns-in_err-check_lens : goal.returns-in_err-check_lens
returns-in_err-check_lens c =
    let a = c.args in
    ap number_in (handed-on _ _ c.from_residual.ensures)
    ∙ or_else-refused c.in_err-check_lens.field-0.0 _ (short_no (needs_of 4096 (drop a.from (meant 4096 [] a.plan))) a.lens.log a.log a.db a.clog) c.in_err-check_lens.ensures

pub check_space-requires : goal.check_space-requires
check_space-requires c = let a = c.args in formed-log a.lens a.log a.db a.clog (sym c.in_ok-check_lens.ensures)

pub returns : goal.returns
returns c =
    let a = c.args in
    c.check_space.ensures ∙ ap (λ (w : Needs). short_no w a.lens.log a.log a.db a.clog) c.needed-w.ensures ∙ rw (sym c.in_ok-check_lens.ensures)
