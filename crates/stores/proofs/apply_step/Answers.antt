-- `stores::apply_step` meets its contract: store by store, the call on its file is accepted because there is room. Assumes nothing.
use Rattle.stores.proofs.StepLaws.{image-room, log-file, log-done, db-file, slot-done, compact-done, truncate-done}
use Rattle.stores.specs.Plans.{meaning}
use Rattle.world.specs.World.{files_of}
use Rattle.world.specs.declared.Lens.{Lens}
use Rattle.frames.proofs.CopyLaws.{length-frame}
use Rattle.frames.specs.Copies.{frame_of}
use Rattle.meta.specs.Page.{meta_page}
use Rattle.wal.specs.Records.{image, begin, commit, abort, checkpoint}
use mathlib.Core.Path.{refl, ap, ◌∙◌}
use Rattle.stores.proofs.apply_step.Goals as goal

pub put_image-requires : goal.put_image-requires
unfolding meaning
put_image-requires c =
    let g = c.in-LogImage in
    let fr = c.args.frames.now in
    image-room 4096 (files_of c.args.lens c.args.log.now c.args.db.now c.args.clog.now) (meaning 4096 c.args.frames.now c.args.step) c.requires g.page (frame_of 4096 fr g.slot) (ap (meaning 4096 c.args.frames.now) g.is) (length-frame 4096 fr g.slot)

pub returns-in-LogImage : goal.returns-in-LogImage
unfolding meaning
returns-in-LogImage c =
    let k = c.put_image in
    let g = c.in-LogImage in
    ap (λ (n : Lens). files_of n k.new.log c.args.db.now c.args.clog.now) c.lengths.ensures
    ∙ log-file 4096 (files_of c.args.lens c.args.log.now c.args.db.now c.args.clog.now) (meaning 4096 c.args.frames.now c.args.step) (image g.page (frame_of 4096 c.args.frames.now g.slot)) k.result k.new.log (ap (meaning 4096 c.args.frames.now) g.is) k.ensures

pub returns-in-LogBegin : goal.returns-in-LogBegin
unfolding meaning
returns-in-LogBegin c =
    let k = c.append_begin in
    let g = c.in-LogBegin in
    ap (λ (n : Lens). files_of n k.new.log c.args.db.now c.args.clog.now) c.lengths-in-LogBegin.ensures
    ∙ log-done 4096 (files_of c.args.lens c.args.log.now c.args.db.now c.args.clog.now) (meaning 4096 c.args.frames.now c.args.step) c.requires (begin g.id.0) k.result c.unwrap_or.result k.new.log (ap (meaning 4096 c.args.frames.now) g.is) refl k.ensures c.unwrap_or.ensures

pub returns-in-LogCommit : goal.returns-in-LogCommit
unfolding meaning
returns-in-LogCommit c =
    let k = c.append_commit in
    let g = c.in-LogCommit in
    ap (λ (n : Lens). files_of n k.new.log c.args.db.now c.args.clog.now) c.lengths-in-LogCommit.ensures
    ∙ log-done 4096 (files_of c.args.lens c.args.log.now c.args.db.now c.args.clog.now) (meaning 4096 c.args.frames.now c.args.step) c.requires (commit g.id.0 g.time.0) k.result c.unwrap_or-in-LogCommit.result k.new.log (ap (meaning 4096 c.args.frames.now) g.is) refl k.ensures c.unwrap_or-in-LogCommit.ensures

pub returns-in-LogAbort : goal.returns-in-LogAbort
unfolding meaning
returns-in-LogAbort c =
    let k = c.append_abort in
    let g = c.in-LogAbort in
    ap (λ (n : Lens). files_of n k.new.log c.args.db.now c.args.clog.now) c.lengths-in-LogAbort.ensures
    ∙ log-done 4096 (files_of c.args.lens c.args.log.now c.args.db.now c.args.clog.now) (meaning 4096 c.args.frames.now c.args.step) c.requires (abort g.id.0) k.result c.unwrap_or-in-LogAbort.result k.new.log (ap (meaning 4096 c.args.frames.now) g.is) refl k.ensures c.unwrap_or-in-LogAbort.ensures

pub returns-in-LogCheckpoint : goal.returns-in-LogCheckpoint
unfolding meaning
returns-in-LogCheckpoint c =
    let k = c.append_checkpoint in
    let g = c.in-LogCheckpoint in
    ap (λ (n : Lens). files_of n k.new.log c.args.db.now c.args.clog.now) c.lengths-in-LogCheckpoint.ensures
    ∙ log-done 4096 (files_of c.args.lens c.args.log.now c.args.db.now c.args.clog.now) (meaning 4096 c.args.frames.now c.args.step) c.requires checkpoint k.result c.unwrap_or-in-LogCheckpoint.result k.new.log (ap (meaning 4096 c.args.frames.now) g.is) refl k.ensures c.unwrap_or-in-LogCheckpoint.ensures

pub returns-in-WritePage : goal.returns-in-WritePage
unfolding meaning
returns-in-WritePage c =
    let k = c.put_page in
    let g = c.in-WritePage in
    ap (λ (n : Lens). files_of n c.args.log.now k.new.db c.args.clog.now) c.lengths-in-WritePage.ensures
    ∙ db-file 4096 (files_of c.args.lens c.args.log.now c.args.db.now c.args.clog.now) (meaning 4096 c.args.frames.now c.args.step) g.page (frame_of 4096 c.args.frames.now g.slot) k.result k.new.db (ap (meaning 4096 c.args.frames.now) g.is) k.ensures

pub returns-in-WriteMeta : goal.returns-in-WriteMeta
unfolding meaning
returns-in-WriteMeta c =
    let k = c.put_counters in
    let g = c.in-WriteMeta in
    let m = g.m in
    ap (λ (n : Lens). files_of n c.args.log.now k.new.db c.args.clog.now) c.lengths-in-WriteMeta.ensures
    ∙ db-file 4096 (files_of c.args.lens c.args.log.now c.args.db.now c.args.clog.now) (meaning 4096 c.args.frames.now c.args.step) 0 (meta_page 4096 m.next.0 m.time.0 m.mark.0) k.result k.new.db (ap (meaning 4096 c.args.frames.now) g.is) k.ensures

pub returns-in-SetSlot : goal.returns-in-SetSlot
unfolding meaning
returns-in-SetSlot c =
    let k = c.record in
    let g = c.in-SetSlot in
    ap (λ (n : Lens). files_of n c.args.log.now c.args.db.now k.new.clog) c.lengths-in-SetSlot.ensures
    ∙ slot-done 4096 (files_of c.args.lens c.args.log.now c.args.db.now c.args.clog.now) (meaning 4096 c.args.frames.now c.args.step) c.requires g.id.0 g.status k.result c.unwrap_or-in-SetSlot.result k.new.clog (ap (meaning 4096 c.args.frames.now) g.is) k.ensures c.unwrap_or-in-SetSlot.ensures

pub returns-in-Compact : goal.returns-in-Compact
unfolding meaning
returns-in-Compact c =
    let k = c.compact in
    let g = c.in-Compact in
    ap (λ (n : Lens). files_of n c.args.log.now c.args.db.now k.new.clog) c.lengths-in-Compact.ensures
    ∙ compact-done 4096 (files_of c.args.lens c.args.log.now c.args.db.now c.args.clog.now) (meaning 4096 c.args.frames.now c.args.step) c.requires g.below.0 k.result c.unwrap_or-in-Compact.result k.new.clog (ap (meaning 4096 c.args.frames.now) g.is) k.ensures c.unwrap_or-in-Compact.ensures

pub returns-in-Truncate : goal.returns-in-Truncate
unfolding meaning
returns-in-Truncate c =
    let k = c.truncate in
    ap (λ (n : Lens). files_of n k.new.log c.args.db.now c.args.clog.now) c.lengths-in-Truncate.ensures
    ∙ truncate-done 4096 (files_of c.args.lens c.args.log.now c.args.db.now c.args.clog.now) (meaning 4096 c.args.frames.now c.args.step) c.requires k.result c.unwrap_or-in-Truncate.result k.new.log (ap (meaning 4096 c.args.frames.now) c.in-Truncate.is) k.ensures c.unwrap_or-in-Truncate.ensures
