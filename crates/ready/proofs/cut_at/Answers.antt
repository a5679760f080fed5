-- `ready::cut_at` meets its contract. Assumes nothing.
use mathlib.Core.Path.{sym, ap, ◌∙◌}
use Rattle.world.specs.declared.Lens.{Lens}
use Rattle.stores.specs.Room.{cut, cut_of}
use Rattle.ready.specs.Ready.{cut_as}
use Rattle.ready.proofs.Prepared.{cut-lens, cut-done}
use Rattle.ready.proofs.cut_at.Goals as goal

pub returns : goal.returns
returns c =
    let a = c.args in
    let k = c.carry_on in
    let n = a.r.store.lens in
    ap (λ (x : Lens). cut_of (cut_as (record { number = a.r.number; value = x })) k.new.log k.new.db k.new.clog) (c.unwrap_or-value.ensures ∙ sym (cut-lens n k.result))
    ∙ cut-done 4096 a.r a.frames.now a.k a.log.now a.db.now a.clog.now (cut n k.result) k.new.log k.new.db k.new.clog k.ensures
