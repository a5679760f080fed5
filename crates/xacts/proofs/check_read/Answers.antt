-- `xacts::check_read` meets its contract: the tests in the definition's order. Assumes nothing.
use mathlib.Core.Path.{◌∙◌}
use lib.Dec.{lit<}
use Rattle.fields.proofs.AnswerLaws.{handed-on}
use Rattle.xacts.specs.Calls.{read_no}
use Rattle.xacts.proofs.Ways.{first-told, rest-told, read-tests}
use Rattle.xacts.proofs.check_read.Goals as goal

pub returns-in_err-refuse_if : goal.returns-in_err-refuse_if
unfolding read_no
returns-in_err-refuse_if c = rw (handed-on _ _ c.from_residual.ensures) (first-told _ _ 21 _ c.in_err-refuse_if.ensures)

pub returns-in_err-refuse_if-2 : goal.returns-in_err-refuse_if-2
returns-in_err-refuse_if-2 c =
    let a = c.args in
    rw (handed-on _ _ c.from_residual-in_err-refuse_if-2.ensures) (first-told _ _ 20 _ c.in_err-refuse_if-2.ensures
    ∙ rest-told _ 21 _ (lit< tt) c.in_ok-refuse_if.ensures ∙ read-tests 8192 a.pages.now a.size _ c.has_slot-sub_committed.ensures)

pub returns : goal.returns
returns c =
    let a = c.args in
    c.refuse_if-3.ensures ∙ rest-told _ 20 _ (lit< tt) c.in_ok-refuse_if-2.ensures
    ∙ rest-told _ 21 _ (lit< tt) c.in_ok-refuse_if.ensures ∙ read-tests 8192 a.pages.now a.size _ c.has_slot-sub_committed.ensures
