-- `acts::cut_at` meets its contract. Assumes nothing.
use mathlib.Core.Path.{ap, ◌∙◌}
use Rattle.world.specs.declared.Lens.{Lens}
use Rattle.stores.specs.Room.{cut_of}
use Rattle.ready.specs.Ready.{cut_as}
use Rattle.acts.proofs.Records.{cut_out}
use Rattle.acts.proofs.cut_at.Goals as goal

pub returns : goal.returns
returns c =
    let a = c.args in
    let k = c.carry_on in
    ap (λ (x : Lens). cut_of (cut_as (record { number = a.m.number; value = x })) k.new.log k.new.db k.new.clog) c.unwrap_or-value.ensures
    ∙ cut_out 4096 a.m a.log.now a.db.now a.clog.now a.frames.now k.new.log k.new.db k.new.clog a.k k.result k.ensures
