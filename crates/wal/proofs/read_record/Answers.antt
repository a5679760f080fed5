-- `wal::read_record` meets its contract: each `return` is a case of `read_in`, by the tests that led there. Assumes nothing.
use mathlib.Core.Path.{sym, refl, ◌∙◌}
use native.Mathlib.Omega.{arith}
use lib.ListN.{length-take}
use Rattle.fields.proofs.FileLaws.{fit-means}
use Rattle.wal.proofs.ReadLaws.{read-unfit, read_past, read-end, read_low, read-high, read-torn, read_one}
use Rattle.wal.proofs.read_record.Goals as goal

pub returns-then-is_unfit : goal.returns-then-is_unfit
returns-then-is_unfit c =
    let a = c.args in
    let u = sym c.is_unfit.ensures ∙ c.if-is_unfit.true in
    read-unfit 4096 a.log.now a.len a.at u

pub returns-then-len-at : goal.returns-then-len-at
returns-then-len-at c =
    let a = c.args in
    let u = sym c.is_unfit.ensures ∙ c.if-is_unfit.false in
    read_past 4096 a.log.now a.len a.at u (omega arith)

pub slice_bounds-s-end : goal.slice_bounds-s-end
slice_bounds-s-end c =
    let a = c.args in
    let m = fit-means _ _ _ (sym c.is_unfit.ensures ∙ c.if-is_unfit.false) in
    simp length-take (omega arith)

pub returns-then-len-at-2 : goal.returns-then-len-at-2
returns-then-len-at-2 c =
    let a = c.args in
    let u = sym c.is_unfit.ensures ∙ c.if-is_unfit.false in
    read-end 4096 a.log.now a.len a.at u (omega arith)

pub bounds-s-at : goal.bounds-s-at
bounds-s-at c =
    let m = fit-means _ _ _ (sym c.is_unfit.ensures ∙ c.if-is_unfit.false) in
    simp length-take (omega arith)

pub returns-then-tag-lt-PAGE_IMAGE_TAG : goal.returns-then-tag-lt-PAGE_IMAGE_TAG
returns-then-tag-lt-PAGE_IMAGE_TAG c =
    let a = c.args in
    let u = sym c.is_unfit.ensures ∙ c.if-is_unfit.false in
    read_low 4096 a.log.now a.len a.at u (omega arith) c.if-tag-lt-PAGE_IMAGE_TAG.true

pub returns-then-tag-gt-CHECKPOINT_TAG : goal.returns-then-tag-gt-CHECKPOINT_TAG
returns-then-tag-gt-CHECKPOINT_TAG c =
    let a = c.args in
    let u = sym c.is_unfit.ensures ∙ c.if-is_unfit.false in
    read-high 4096 a.log.now a.len a.at u (omega arith) c.if-tag-gt-CHECKPOINT_TAG.true

pub returns-then-left-n : goal.returns-then-left-n
returns-then-left-n c =
    let a = c.args in
    let u = sym c.is_unfit.ensures ∙ c.if-is_unfit.false in
    read-torn 4096 a.log.now a.len a.at u (omega arith) (omega arith) (omega arith) c.body_len-n.result c.body_len-n.ensures _ c.if-left-n.true refl

pub record_of-requires : goal.record_of-requires
record_of-requires c =
    let m = fit-means _ _ _ (sym c.is_unfit.ensures ∙ c.if-is_unfit.false) in
    (omega arith, omega arith, simp length-take (omega arith))

pub returns : goal.returns
returns c =
    let a = c.args in
    let u = sym c.is_unfit.ensures ∙ c.if-is_unfit.false in
    read_one 4096 a.log.now a.len a.at u (omega arith) (omega arith) (omega arith) c.body_len-n.result c.body_len-n.ensures c.record_of.result _ (omega arith) refl c.record_of.ensures
