-- `keyon::test` meets its contract: a law for each way out. Assumes nothing.
use mathlib.Core.Path.{◌≡◌, refl, sym, ap, ◌∙◌}
use native.Mathlib.Omega.{arith}
use Rattle.fields.specs.declared.refusal.Refusal.{Refusal}
use Rattle.fields.specs.declared.refusal.Refusal.TheVariants.{Unfit, TableFull}
use Rattle.fields.specs.Refusals.{number_of, number_in}
use Rattle.fields.proofs.AnswerLaws.{number-positive, handed-on}
use Rattle.std.specs.Prelude.{Err}
use Rattle.rows.specs.Rows.{rowed}
use Rattle.world.specs.World.{files_of}
use Rattle.keyon.specs.Inside.{tested_of}
use Rattle.keyon.proofs.Tests.{test-unfit, test-format, test-room, test-full, test-ending, test-passed}
use Rattle.keyon.proofs.test.Goals as goal

met : (r : Refusal) → number_of r ≡ 0 → ⊥
met r z = omega (arith, number-positive r)

pub returns-then-buffers_bad : goal.returns-then-buffers_bad
returns-then-buffers_bad c =
    let a = c.args in
    test-unfit 4096 (files_of a.lens a.log.now a.db.now a.clog.now) a.frames.now (tested_of (Err Unfit)) a.logged.now a.full.now refl (sym c.buffers_bad.ensures ∙ c.if-buffers_bad.true)

pub returns-in_err-check_format : goal.returns-in_err-check_format
returns-in_err-check_format c =
    let a = c.args in
    let k = sym c.buffers_bad.ensures ∙ c.if-buffers_bad.false in
    let r = c.in_err-check_format.field-0.0 in
    rw (handed-on _ _ c.from_residual.ensures)
    (test-format 4096 (files_of a.lens a.log.now a.db.now a.clog.now) a.frames.now k (tested_of (Err r)) (number_of r) a.logged.now a.full.now refl c.in_err-check_format.ensures (met r))

pub returns-in_err-check_room : goal.returns-in_err-check_room
returns-in_err-check_room c =
    let a = c.args in
    let k = sym c.buffers_bad.ensures ∙ c.if-buffers_bad.false in
    let s = c.survey-s in
    let r = c.in_err-check_room.field-0.0 in
    rw (handed-on _ _ c.from_residual-in_err-check_room.ensures)
    (test-room 4096 (files_of a.lens a.log.now a.db.now a.clog.now) a.frames.now k (sym c.in_ok-check_format.ensures) s.result a.logged.now s.new.rows s.ensures
    (tested_of (Err r)) (number_of r) s.new.rows a.full.now refl c.in_err-check_room.ensures (met r))

pub returns-then-t-ne-ACCEPTED : goal.returns-then-t-ne-ACCEPTED
returns-then-t-ne-ACCEPTED c =
    let a = c.args in
    let k = sym c.buffers_bad.ensures ∙ c.if-buffers_bad.false in
    let s = c.survey-s in
    test-full 4096 (files_of a.lens a.log.now a.db.now a.clog.now) a.frames.now k (sym c.in_ok-check_format.ensures) s.result a.logged.now s.new.rows s.ensures (sym c.in_ok-check_room.ensures)
    a.full.now (rowed c.join-t.result c.join-t.new.full) c.join-t.ensures (tested_of (Err TableFull)) s.new.rows c.join-t.new.full refl c.if-t-ne-ACCEPTED.true

pub returns-in_err-s : goal.returns-in_err-s
returns-in_err-s c =
    let a = c.args in
    let k = sym c.buffers_bad.ensures ∙ c.if-buffers_bad.false in
    let s = c.survey-s in
    let r = c.in_err-s.field-0.0 in
    let n = ap number_in c.in_err-s.was in
    rw (handed-on _ _ c.from_residual-in_err-s.ensures)
    (test-ending 4096 (files_of a.lens a.log.now a.db.now a.clog.now) a.frames.now k (sym c.in_ok-check_format.ensures) s.result a.logged.now s.new.rows s.ensures (sym c.in_ok-check_room.ensures)
    a.full.now (rowed c.join-t.result c.join-t.new.full) c.join-t.ensures c.if-t-ne-ACCEPTED.false (tested_of (Err r)) s.new.rows c.join-t.new.full (rw n) (λ z. met r (sym n ∙ z)))

pub returns : goal.returns
returns c =
    let a = c.args in
    let k = sym c.buffers_bad.ensures ∙ c.if-buffers_bad.false in
    let s = c.survey-s in
    test-passed 4096 (files_of a.lens a.log.now a.db.now a.clog.now) a.frames.now k (sym c.in_ok-check_format.ensures) s.result a.logged.now s.new.rows s.ensures (sym c.in_ok-check_room.ensures)
    a.full.now (rowed c.join-t.result c.join-t.new.full) c.join-t.ensures c.if-t-ne-ACCEPTED.false (ap number_in c.in_ok-s.was)
