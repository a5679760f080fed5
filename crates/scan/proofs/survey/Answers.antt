-- `scan::survey` meets its contract: one law for each way out. Assumes nothing.
use mathlib.Core.Path.{sym, ap, ◌∙◌}
use Rattle.fields.specs.Refusals.{number_in}
use Rattle.fields.proofs.AnswerLaws.{handed-on}
use Rattle.world.specs.World.{files_of}
use Rattle.scan.specs.Surveys.{surveyed_of}
use Rattle.scan.specs.Scans.{scanned_of, held_of}
use Rattle.scan.proofs.Surveys.{survey-unfit, clog-fits, survey-format, survey-room, survey-log, survey-clog, survey-both, survey-ending, survey-passed}
use Rattle.scan.proofs.survey.Goals as goal

pub returns-then-buffers_bad : goal.returns-then-buffers_bad
returns-then-buffers_bad c =
    let a = c.args in
    let f = files_of a.lens a.log.now a.db.now a.clog.now in
    survey-unfit 4096 f a.frames.now (sym c.buffers_bad.ensures ∙ c.if-buffers_bad.true)

pub returns-in_err-check_format : goal.returns-in_err-check_format
returns-in_err-check_format c =
    let a = c.args in
    let f = files_of a.lens a.log.now a.db.now a.clog.now in
    let k = sym c.buffers_bad.ensures ∙ c.if-buffers_bad.false in
    ap surveyed_of (handed-on _ _ c.from_residual.ensures) ∙ survey-format 4096 f a.frames.now k _ c.in_err-check_format.ensures

pub returns-in_err-check_room : goal.returns-in_err-check_room
returns-in_err-check_room c =
    let a = c.args in
    let f = files_of a.lens a.log.now a.db.now a.clog.now in
    let k = sym c.buffers_bad.ensures ∙ c.if-buffers_bad.false in
    let z = sym c.in_ok-check_format.ensures in
    ap surveyed_of (handed-on _ _ c.from_residual-in_err-check_room.ensures)
    ∙ survey-room 4096 f a.frames.now k z (scanned_of c.scan-s.result) c.scan-s.ensures _ c.in_err-check_room.ensures

pub returns-in_err-s : goal.returns-in_err-s
returns-in_err-s c =
    let a = c.args in
    let f = files_of a.lens a.log.now a.db.now a.clog.now in
    let k = sym c.buffers_bad.ensures ∙ c.if-buffers_bad.false in
    let z = sym c.in_ok-check_format.ensures in
    let y = sym c.in_ok-check_room.ensures in
    ap surveyed_of (handed-on _ _ c.from_residual-in_err-s.ensures)
    ∙ survey-log 4096 f a.frames.now k z (scanned_of c.scan-s.result) c.scan-s.ensures y _ (ap held_of c.in_err-s.was)

pub in_clog-requires : goal.in_clog-requires
in_clog-requires c =
    let a = c.args in
    let f = files_of a.lens a.log.now a.db.now a.clog.now in
    clog-fits 4096 f a.frames.now (sym c.buffers_bad.ensures ∙ c.if-buffers_bad.false)

pub returns-in_err-old : goal.returns-in_err-old
returns-in_err-old c =
    let a = c.args in
    let f = files_of a.lens a.log.now a.db.now a.clog.now in
    let k = sym c.buffers_bad.ensures ∙ c.if-buffers_bad.false in
    let z = sym c.in_ok-check_format.ensures in
    let y = sym c.in_ok-check_room.ensures in
    ap surveyed_of (handed-on _ _ c.from_residual-in_err-old.ensures)
    ∙ survey-clog 4096 f a.frames.now k z (scanned_of c.scan-s.result) c.scan-s.ensures y _ (ap held_of c.in_ok-s.was) _ c.in_err-old.ensures

pub returns-in_err-full : goal.returns-in_err-full
returns-in_err-full c =
    let a = c.args in
    let f = files_of a.lens a.log.now a.db.now a.clog.now in
    let k = sym c.buffers_bad.ensures ∙ c.if-buffers_bad.false in
    let z = sym c.in_ok-check_format.ensures in
    let y = sym c.in_ok-check_room.ensures in
    ap surveyed_of (handed-on _ _ c.from_residual-in_err-full.ensures)
    ∙ survey-both 4096 f a.frames.now k z (scanned_of c.scan-s.result) c.scan-s.ensures y _ (ap held_of c.in_ok-s.was) _ c.settle-logged.ensures _ c.in_ok-old.ensures _
    c.in_err-full.ensures

pub returns-in_err-s-2 : goal.returns-in_err-s-2
returns-in_err-s-2 c =
    let a = c.args in
    let f = files_of a.lens a.log.now a.db.now a.clog.now in
    let k = sym c.buffers_bad.ensures ∙ c.if-buffers_bad.false in
    let z = sym c.in_ok-check_format.ensures in
    let y = sym c.in_ok-check_room.ensures in
    ap surveyed_of (handed-on _ _ c.from_residual-in_err-s-2.ensures)
    ∙ survey-ending 4096 f a.frames.now k z (scanned_of c.scan-s.result) c.scan-s.ensures y _ (ap held_of c.in_ok-s.was) _ c.settle-logged.ensures _ c.in_ok-old.ensures _
    c.in_ok-full.ensures _ (sym (ap number_in c.in_err-s-2.was))

pub returns : goal.returns
returns c =
    let a = c.args in
    let f = files_of a.lens a.log.now a.db.now a.clog.now in
    let k = sym c.buffers_bad.ensures ∙ c.if-buffers_bad.false in
    let z = sym c.in_ok-check_format.ensures in
    let y = sym c.in_ok-check_room.ensures in
    survey-passed 4096 f a.frames.now k z (scanned_of c.scan-s.result) c.scan-s.ensures y _ (ap held_of c.in_ok-s.was) _ c.settle-logged.ensures _ c.in_ok-old.ensures _
    c.in_ok-full.ensures (ap number_in c.in_ok-s-2.was)
