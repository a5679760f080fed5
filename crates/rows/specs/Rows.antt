-- The status table as a list of rows, id, tag and time, of which the first count are held. A tag is 0 for Active, 1 for Committed, 2 for Aborted; the time
-- is 0 where the tag is not 1. A changed table is its rows laid in front of the array: what stands past the last entry stays. Assumes nothing.
use Rattle.std.specs.Prelude.{ℕ, List, [], ◌∷◌, map, Bool, false, cond, not, ◌&&◌, ◌||◌, length, take, get_or, ltb, leb, eqb, Result, Ok, Err}
use Rattle.fields.specs.declared.refusal.Refusal.{Refusal}
use Rattle.fields.specs.Refusals.{number_of}
use Rattle.sorted.specs.Sorted.{laid_on, insert_by}
use Rattle.table.specs.declared.Status.{Status}
use Rattle.table.specs.declared.Status.TheVariants.{Active, Committed, Aborted}
use Rattle.table.specs.declared.Entry.{Entry}
use Rattle.table.specs.declared.Table.{Table}
use Rattle.table.specs.Entries.{time_of}
use Rattle.rows.specs.declared.Filled.{Filled}

-- ---- a row

abbrev pub row_id : List ℕ → ℕ
row_id r = get_or r 0 0

abbrev pub tag_of : Status → ℕ
tag_of Active = 0
tag_of (Committed t) = 1
tag_of Aborted = 2

unfoldable pub status_in : ℕ → ℕ → Status
status_in tag time = cond (eqb tag 0) Active (cond (eqb tag 1) (Committed (record { 0 = time })) Aborted)

abbrev pub entry_of : List ℕ → Entry
entry_of r = record { id = record { 0 = get_or r 0 0 }; status = status_in (get_or r 1 0) (get_or r 2 0) }

abbrev pub row_of : Entry → List ℕ
row_of e = e.id.0 ∷ tag_of e.status ∷ time_of e.status ∷ []

-- no entry is written so
unfoldable pub odd_row : List ℕ → Bool
odd_row r = not (eqb (length r) 3) || (not (eqb (get_or r 1 0) 1) && (ltb 2 (get_or r 1 0) || not (eqb (get_or r 2 0) 0)))

unfoldable pub any_odd : List (List ℕ) → Bool
any_odd [] = false
any_odd (r ∷ l) = odd_row r || any_odd l

-- ---- the table

-- rows and a count, read as the table of crate table
abbrev pub table_of : ℕ → List (List ℕ) → Table
table_of count rows = record { entries = map entry_of rows; count = count }

-- ---- an entry is set

pub record Rowed : Type 0 where
  pub number : ℕ
  pub count : ℕ
  pub rows : List (List ℕ)

abbrev pub rowed_as : ℕ → ℕ → List (List ℕ) → Rowed
rowed_as number count rows = record { number = number; count = count; rows = rows }

abbrev pub rowed : Filled → List (List ℕ) → Rowed
rowed r rows = rowed_as r.number r.count rows

-- the number and the count alone
pub record Counted : Type 0 where
  pub number : ℕ
  pub count : ℕ

abbrev pub row_kept : Rowed → Counted
row_kept r = record { number = r.number; count = r.count }

-- a result where n rows were held: refused, it leaves that many
abbrev pub counted_in : ℕ → Result ℕ Refusal → Counted
counted_in n (Ok m) = record { number = 0; count = m }
counted_in n (Err r) = record { number = number_of r; count = n }

-- with the rows
abbrev pub rowed_in : ℕ → Result ℕ Refusal → List (List ℕ) → Rowed
rowed_in n (Ok m) rows = rowed_as 0 m rows
rowed_in n (Err r) rows = rowed_as (number_of r) n rows

-- refused with 7, and the table as it was, where it would have more than N entries
unfoldable pub set_row : ℕ → List (List ℕ) → ℕ → Entry → Rowed
set_row N rows count e =
    let l = insert_by row_id (row_of e) (take count rows) in
    cond (leb (length l) N) (rowed_as 0 (length l) (laid_on rows l)) (rowed_as 7 count rows)

-- ---- several entries are set, one after the other

-- one more, unless one was refused before
unfoldable pub held_row : ℕ → Rowed → Entry → Rowed
held_row N r e = cond (eqb r.number 0) (set_row N r.rows r.count e) r

-- the first that is refused ends it: the table stays as it is then, with 7
unfoldable pub set_all : ℕ → Rowed → List Entry → Rowed
set_all N r [] = r
set_all N r (e ∷ es) = set_all N (held_row N r e) es
