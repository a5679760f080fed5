-- A store's table handed out into a lent slice: 1 and 14 as every call tests them, then 13 where the slice is shorter than the table. P is the page size.
-- Assumes nothing.
use Rattle.std.specs.Prelude.{ℕ, List, length}
use Rattle.table.specs.declared.Entry.{Entry}
use Rattle.world.specs.World.{World}
use Rattle.world.specs.Refusals.{or_else, front_no}
use Rattle.form.specs.declared.Store.{Store}
use Rattle.form.specs.Store.{world_of}
use Rattle.hands.specs.Handing.{Handed, handed_by, short_no}

abbrev pub table_no : ℕ → World → ℕ → ℕ
table_no P w room = or_else (front_no P w) (short_no (length w.mem.table) room)

unfoldable pub table_handed : ℕ → Store → List ℕ → List ℕ → List ℕ → List ℕ → List Entry → Handed
table_handed P s log db clog frames slice =
    let w = world_of s log db clog frames in
    handed_by w.mem.table slice (table_no P w (length slice))
