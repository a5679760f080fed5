-- The table's entries, ascending by id: how many they are, and the one at a place, from 0. Both make the tests of 1 and 14 that every call makes; where those
-- refuse, no entry is told. P is the page size. Assumes nothing.
use Rattle.std.specs.Prelude.{ℕ, List, [], ◌∷◌, length, take, drop, Option, Some, None, Result, Ok, Err}
use Rattle.fields.specs.declared.refusal.Refusal.{Refusal}
use Rattle.fields.specs.Refusals.{number_of}
use Rattle.table.specs.declared.Entry.{Entry}
use Rattle.world.specs.Refusals.{front_no}
use Rattle.world.specs.Run.{decided}
use Rattle.form.specs.declared.Store.{Store}
use Rattle.form.specs.Store.{world_of}

-- a number, and how many entries there are: 0 where it is refused
pub record EntryCount : Type 0 where
  pub number : ℕ
  pub entries : ℕ

abbrev pub count_told : Result ℕ Refusal → EntryCount
count_told (Ok n) = record { number = 0; entries = n }
count_told (Err r) = record { number = number_of r; entries = 0 }

unfoldable pub entries_counted : ℕ → Store → List ℕ → List ℕ → List ℕ → List ℕ → EntryCount
entries_counted P s log db clog frames =
    let w = world_of s log db clog frames in
    let n = front_no P w in
    record { number = n; entries = decided n (length w.mem.table) 0 }

-- a number, and the entry that is told, none or one
pub record EntryTold : Type 0 where
  pub number : ℕ
  pub entries : List Entry

abbrev pub entries_in : Option Entry → List Entry
entries_in (Some e) = e ∷ []
entries_in None = []

abbrev pub entry_told : Result (Option Entry) Refusal → EntryTold
entry_told (Ok e) = record { number = 0; entries = entries_in e }
entry_told (Err r) = record { number = number_of r; entries = [] }

unfoldable pub entry_read : ℕ → ℕ → Store → List ℕ → List ℕ → List ℕ → List ℕ → EntryTold
entry_read P i s log db clog frames =
    let w = world_of s log db clog frames in
    let n = front_no P w in
    record { number = n; entries = decided n (take 1 (drop i w.mem.table)) [] }
