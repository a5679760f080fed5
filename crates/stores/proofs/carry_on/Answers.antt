-- `stores::carry_on` meets its contract: refused, or carried out. Assumes nothing.
use Rattle.std.proofs.Common.{◌-◌, drop, sym, ap, ◌∙◌, refl}
use lib.Dec.{lit≤}
use Rattle.fields.proofs.AnswerLaws.{handed-on}
use Rattle.world.specs.World.{files_of}
use Rattle.stores.specs.Plans.{meant}
use Rattle.stores.specs.Room.{cut, cut_of}
use Rattle.stores.proofs.RoomLaws.{number_is, accepted-enough, carried-refused, carried-done}
use Rattle.stores.proofs.carry_on.Goals as goal

pub returns-in_err-check_stores : goal.returns-in_err-check_stores
returns-in_err-check_stores c =
    let a = c.args in
    let f = files_of a.lens a.log.now a.db.now a.clog.now in
    let n = c.in_err-check_stores.ensures ∙ number_is 4096 (lit≤ tt) a.frames.now a.plan a.from (files_of a.lens a.log.now a.db.now a.clog.now) in
    ap (λ r. cut_of (cut a.lens r) a.log.now a.db.now a.clog.now) (handed-on _ _ c.from_residual.ensures)
    ∙ carried-refused 4096 (drop a.from (meant 4096 a.frames.now a.plan)) (a.k - a.from) (files_of a.lens a.log.now a.db.now a.clog.now) _ n c.in_err-check_stores.field-0.0 refl

pub carry-requires : goal.carry-requires
carry-requires c =
    let a = c.args in
    let n = c.in_ok-check_stores.ensures ∙ number_is 4096 (lit≤ tt) a.frames.now a.plan a.from (files_of a.lens a.log.now a.db.now a.clog.now) in
    accepted-enough 4096 (drop a.from (meant 4096 a.frames.now a.plan)) (files_of a.lens a.log.now a.db.now a.clog.now) (sym n)

pub returns : goal.returns
returns c =
    let a = c.args in
    let k = c.carry in
    let n = c.in_ok-check_stores.ensures ∙ number_is 4096 (lit≤ tt) a.frames.now a.plan a.from (files_of a.lens a.log.now a.db.now a.clog.now) in
    carried-done 4096 (drop a.from (meant 4096 a.frames.now a.plan)) (a.k - a.from) (files_of a.lens a.log.now a.db.now a.clog.now) 0 n (files_of k.result k.new.log k.new.db k.new.clog) refl k.ensures
