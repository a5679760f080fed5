-- Status table: at most 256 entries, ids strictly ascending; which status an id has, if it has one. A status is Active, Committed with its time, or Aborted.
-- Setting an id's status puts the entry at its place by id, or in the stead of the one that has the id. What would pass 256 entries is refused with number 7,
-- and the table stays as it was.
-- A table is an array and a count, and is read as the list of its first count entries. A changed table is its list laid in front of the array:
-- entries after the last stay as they were.
-- The definitions take the limit as a parameter, N. Order, insertion and look-up are those of the crate sorted, at an entry's id.
use Rattle.std.specs.Prelude.{ℕ, ◌+◌, ◌-◌, ◌^◌, min, max, List, [], ◌∷◌, map, Bool, cond, ◌&&◌, length, take, replicate, leb, Option, Some, None, Result, Ok, Err}
use Rattle.fields.specs.declared.refusal.Refusal.{Refusal}
use Rattle.fields.specs.Refusals.{number_of}
use Rattle.sorted.specs.Sorted.{Hit, miss, hit, laid_on, insert_by, insert_all_by, look_by, ascending_by}
use Rattle.table.specs.declared.Status.{Status}
use Rattle.table.specs.declared.Status.TheVariants.{Active, Committed, Aborted}
use Rattle.table.specs.declared.Entry.{Entry}
use Rattle.table.specs.declared.Table.{Table}

-- ---- a table and its list

-- the entries of a table
abbrev pub list_of : Table → List Entry
list_of t = take t.count t.entries

-- the table with the entries l in front; what stands after the last of them stays
abbrev pub laid : Table → List Entry → Table
laid t l = record { entries = laid_on t.entries l; count = length l }

-- what an array holds where nothing was put
abbrev pub blank : Entry
blank = record { id = record { 0 = 0 }; status = Active }

-- the empty table of N places
unfoldable pub empty_table : ℕ → Table
empty_table N = record { entries = replicate N blank; count = 0 }

-- ---- order, insertion and look-up, by id

abbrev pub id_of : Entry → ℕ
id_of e = e.id.0

abbrev pub insert_entry : Entry → List Entry → List Entry
insert_entry e l = insert_by id_of e l

abbrev pub insert_all : List Entry → List Entry → List Entry
insert_all es l = insert_all_by id_of es l

abbrev pub ascending : List Entry → Bool
ascending l = ascending_by id_of l

-- what a look-up says of the status
abbrev pub known_of : Hit Entry → Option Status
known_of miss = None
known_of (hit e) = Some e.status

-- the status of the first entry with this id
unfoldable pub status_of : ℕ → List Entry → Option Status
status_of k l = known_of (look_by id_of k l)

unfoldable pub well_formed : ℕ → Table → Bool
well_formed N t = leb t.count N && ascending (list_of t)

-- ---- a table is set

-- the number that is told, and the table afterwards
pub record Inserted : Type 0 where
  pub number : ℕ
  pub table : Table

-- what a result tells of the table t: a refusal leaves it as it was
abbrev pub inserted_of : Table → Result Table Refusal → Inserted
inserted_of t (Ok u) = record { number = 0; table = u }
inserted_of t (Err r) = record { number = number_of r; table = t }

-- the table with the entries l; refused with 7, and the table as it was, where they are more than N
unfoldable pub bounded : ℕ → Table → List Entry → Inserted
bounded N t l = cond (leb (length l) N) (record { number = 0; table = laid t l }) (record { number = 7; table = t })

-- a table with e set
unfoldable pub inserted : ℕ → Table → Entry → Inserted
inserted N t e = bounded N t (insert_entry e (list_of t))

-- a table with the entries of another set in it, one after the other
unfoldable pub overlaid : ℕ → Table → Table → Inserted
overlaid N t top = bounded N t (insert_all (list_of top) (list_of t))

-- ---- Active becomes Aborted

abbrev pub settled_status : Status → Status
settled_status Active = Aborted
settled_status (Committed t) = Committed t
settled_status Aborted = Aborted

abbrev pub settled_entry : Entry → Entry
settled_entry e = record { id = e.id; status = settled_status e.status }

abbrev pub active_to_aborted : List Entry → List Entry
active_to_aborted l = map settled_entry l

unfoldable pub settled_table : Table → Table
settled_table t = laid t (active_to_aborted (list_of t))

-- ---- the largest id and time, and the next one

-- the largest of the numbers that f picks, and 0 where there is none
unfoldable pub largest_by : (Entry → ℕ) → List Entry → ℕ
largest_by f [] = 0
largest_by f (x ∷ xs) = max (f x) (largest_by f xs)

-- the time of a Committed status, and 0 of another
abbrev pub time_of : Status → ℕ
time_of Active = 0
time_of (Committed t) = t.0
time_of Aborted = 0

abbrev pub largest_id : List Entry → ℕ
largest_id l = largest_by id_of l

-- the largest time still Committed
abbrev pub largest_time : List Entry → ℕ
largest_time l = largest_by (λ e. time_of e.status) l

-- one more, stopping at the 64-bit maximum
abbrev pub next64 : ℕ → ℕ
next64 n = min (n + 1) (2 ^ 64 - 1)
