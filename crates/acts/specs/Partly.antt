-- A call on a store that stands where it is lent, cut at a store, counted or told. Where there is no store, nothing is stored and nothing is told. P is the page
-- size. Assumes nothing.
use Rattle.std.specs.Prelude.{ℕ, List, []}
use Rattle.world.specs.World.{files_of}
use Rattle.world.specs.Calls.{Call}
use Rattle.stores.specs.Room.{Carried}
use Rattle.lent.specs.Lent.{Lent, store_of, unless_odd}
use Rattle.ready.specs.Ready.{called_to, Counted, counted_for, ToldCall, told_for}

-- cut at its k-th store
unfoldable pub cut_lent : ℕ → ℕ → Call → Lent → List ℕ → List ℕ → List ℕ → List ℕ → Carried
cut_lent P k c s log db clog frames =
    unless_odd P s log db clog frames (λ n. record { number = n; files = files_of s.head.lens log db clog }) (called_to P k c (store_of s) log db clog frames)

-- how many stores it has
unfoldable pub counted_lent : ℕ → Call → Lent → List ℕ → List ℕ → List ℕ → List ℕ → Counted
counted_lent P c s log db clog frames =
    unless_odd P s log db clog frames (λ n. record { number = n; stores = 0 }) (counted_for P c (store_of s) log db clog frames)

-- its store k, from 1 on
unfoldable pub told_lent : ℕ → ℕ → Call → Lent → List ℕ → List ℕ → List ℕ → List ℕ → ToldCall
told_lent P k c s log db clog frames =
    unless_odd P s log db clog frames (λ n. record { number = n; values = [] }) (told_for P k c (store_of s) log db clog frames)
