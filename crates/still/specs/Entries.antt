-- The table's entries, ascending by id: how many they are, and the one at a place, from 0. Both make the tests of 1 and 14 that every call makes; where those
-- refuse, no entry is told. P is the page size. Assumes nothing.
use Rattle.std.specs.Prelude.{ℕ, List, [], length, take, drop}
use Rattle.world.specs.Refusals.{front_no}
use Rattle.world.specs.Run.{decided}
use Rattle.form.specs.Store.{world_of, mem_of}
use Rattle.quiet.specs.Entries.{EntryCount, EntryTold}
use Rattle.lent.specs.Lent.{Lent, store_of, unless_odd}

-- what every call tests first
abbrev pub first_no : ℕ → Lent → List ℕ → List ℕ → List ℕ → List ℕ → ℕ
first_no P s log db clog frames = unless_odd P s log db clog frames (λ n. n) (front_no P (world_of (store_of s) log db clog frames))

unfoldable pub entries_counted : ℕ → Lent → List ℕ → List ℕ → List ℕ → List ℕ → EntryCount
entries_counted P s log db clog frames =
    let n = first_no P s log db clog frames in
    record { number = n; entries = decided n (length (mem_of (store_of s)).table) 0 }

unfoldable pub entry_read : ℕ → ℕ → Lent → List ℕ → List ℕ → List ℕ → List ℕ → EntryTold
entry_read P i s log db clog frames =
    let n = first_no P s log db clog frames in
    record { number = n; entries = decided n (take 1 (drop i (mem_of (store_of s)).table)) [] }
