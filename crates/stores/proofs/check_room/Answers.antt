-- `stores::check_room` meets its contract: the frame buffer has no part in the number. Assumes nothing.
use mathlib.Core.Path.{◌∙◌}
use lib.Dec.{lit≤}
use Rattle.world.specs.World.{files_of}
use Rattle.stores.proofs.RoomLaws.{number_is}
use Rattle.stores.proofs.check_room.Goals as goal

pub returns : goal.returns
returns c = let a = c.args in c.check_stores.ensures ∙ number_is 4096 (lit≤ tt) a.frames.now a.plan 0 (files_of a.lens a.log.now a.db.now a.clog.now)
