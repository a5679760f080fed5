-- `keyon::open` meets its contract: a law for each way out. Assumes nothing.
use mathlib.Core.Path.{◌≡◌, refl, sym, ap, subst, ◌∙◌}
use mathlib.Core.List.{List}
use Prim.Native.Nat.{ℕ}
use Rattle.std.specs.Prelude.{Result, Err}
use Rattle.fields.specs.declared.refusal.Refusal.{Refusal}
use Rattle.fields.specs.Files.{file_of}
use Rattle.fields.specs.Answers.{length_of}
use Rattle.lent.specs.Lent.{lent}
use Rattle.opens.specs.Stops.{Stopped}
use Rattle.opens.proofs.Ways.{is_cut}
use Rattle.keyon.specs.Keyon.{waking_of, wakes}
use Rattle.world.specs.World.{Files, files_of}
use Rattle.keyon.specs.declared.Counts.{Counts}
use Rattle.keyon.specs.Inside.{tested_of, Tests}
use Rattle.keyon.proofs.Ways.{wake-stopped, wake-ready, wake-accepted}
use Rattle.keyon.proofs.open.Goals as goal

-- what the tests found, as the arm has it
tests-of : (f : Files) (frames : List ℕ) (x y : Result Counts Refusal) (logged full : List (List ℕ)) → x ≡ y → Tests 4096 f frames (tested_of x) logged full →
    Tests 4096 f frames (tested_of y) logged full
tests-of f frames x y logged full e t = subst (λ (z : Result Counts Refusal). Tests 4096 f frames (tested_of z) logged full) e t

pub returns-in-Err : goal.returns-in-Err
returns-in-Err c =
    let a = c.args in
    let s = lent a.h a.rows.now a.resident.now a.touched.now in
    let t = tests-of (files_of a.lens a.log.now a.db.now a.clog.now) a.frames.now _ _ c.test-found.new.logged c.test-found.new.full c.in-Err.is c.test-found.ensures in
    ap (λ (t : Stopped). wakes (waking_of a.h (Err t.why)) a.rows.now a.resident.now a.touched.now a.log.now t.db a.clog.now a.frames.now) c.stop.ensures
    ∙ wake-stopped 4096 a.lens s a.log.now a.db.now a.clog.now a.frames.now c.in-Err.r t.0

pub clog_by-c-requires : goal.clog_by-c-requires
clog_by-c-requires c =
    let a = c.args in
    let s = lent a.h a.rows.now a.resident.now a.touched.now in
    let k = c.in-Ok.counts in
    let t = tests-of (files_of a.lens a.log.now a.db.now a.clog.now) a.frames.now _ _ c.test-found.new.logged c.test-found.new.full c.in-Ok.is c.test-found.ensures in
    let h = t.1 refl in
    wake-ready 4096 a.lens s a.log.now a.db.now a.clog.now a.frames.now (sym t.0) k.logged k.full c.test-found.new.logged c.test-found.new.full h.0 h.1

pub returns : goal.returns
returns c =
    let a = c.args in
    let s = lent a.h a.rows.now a.resident.now a.touched.now in
    let k = c.in-Ok.counts in
    let t = tests-of (files_of a.lens a.log.now a.db.now a.clog.now) a.frames.now _ _ c.test-found.new.logged c.test-found.new.full c.in-Ok.is c.test-found.ensures in
    let h = t.1 refl in
    let g = c.clog_by-c in
    let u = c.truncate in
    let x = is_cut 4096 a.lens a.log.now a.db.now a.clog.now a.frames.now (sym t.0) u.result u.new.log u.ensures in
    wake-accepted 4096 a.lens s a.log.now a.db.now a.clog.now a.frames.now (sym t.0) k.logged k.full c.test-found.new.logged c.test-found.new.full h.0 h.1
    (file_of c.lay_images-n.new.db c.lay_images-n.result) c.lay_images-n.ensures c.read_meta.result c.read_meta.ensures c.unwrap_or-stored.result c.unwrap_or-stored.ensures
    (file_of g.new.clog g.result) (file_of u.new.log (length_of u.result)) g.ensures x c.lay_rows.new.rows c.lay_rows.ensures c.head_by.result
    (c.head_by.ensures ∙ rw c.unwrap_or-l.ensures)
