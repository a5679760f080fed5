-- What a host gets of a call on one file: its number, four values, and every byte of the buffers that it lent. The values are those that the call tells, zeros
-- after the last; all four are written at every call, refused ones too. What a call tells and leaves is defined by the crates wal, clog, xacts, shrunk and meta.
-- Assumes nothing.
use Rattle.std.specs.Prelude.{ℕ, List, [], ◌∷◌, ◌++◌, map, cond, get_or, ltb}
use Rattle.fields.specs.Files.{File, room}
use Rattle.fields.specs.Answers.{Told, Outcome}
use Rattle.table.specs.Entries.{list_of}
use Rattle.clog.specs.Slots.{code_of}
use Rattle.clog.specs.Calls.{unfit, recorded, LoadOutcome}
use Rattle.shrunk.specs.Calls.{recorded_second}
use Rattle.sorted.specs.Sorted.{laid_on}
use Rattle.rows.specs.Rows.{status_in, row_of}
use Rattle.words.specs.Values.{said, four}

-- ---- the number and the four values

unfoldable pub said_by : Told → Told
said_by t = said t.number (four t.values)

-- page 0's counters, and a 1 behind them, which tells them from no meta page: then all four are 0
abbrev pub marked : List ℕ → List ℕ
marked [] = []
marked (v ∷ vs) = (v ∷ vs) ++ (1 ∷ [])

unfoldable pub meta_said : Told → Told
meta_said t = said t.number (four (marked t.values))

-- ---- a call on one file: beside them every byte of its buffer

abbrev pub left : ℕ → List ℕ → List ℕ → Outcome
left number values bytes = record { told = said number values; bytes = bytes }

unfoldable pub left_by : Outcome → Outcome
left_by o = record { told = said_by o.told; bytes = o.bytes }

-- A status by its tag: 0 Active, 1 Committed, 2 Aborted. Another tag is out of form, 14, after 1: the buffer and the length, which is least at least, are tested
-- first. A status goes to the call by its code.
unfoldable pub by_tag : ℕ → File → (ℕ → Outcome) → ℕ → ℕ → Outcome
by_tag least f call tag time =
    cond (ltb 2 tag) (left (cond (unfit least (room f) f.len) 1 14) [] f.bytes) (call (code_of (status_in tag time)))

-- recorded for an id, in a clog and in a file of the second form
unfoldable pub recorded_tag : File → ℕ → ℕ → ℕ → Outcome
recorded_tag f id tag time = by_tag 8 f (recorded 8 0 f id) tag time

unfoldable pub recorded_second_tag : File → ℕ → ℕ → ℕ → Outcome
recorded_second_tag f id tag time = by_tag 13 f (recorded_second f id) tag time

-- ---- a load

-- beside the number and the values every byte of the clog's buffer and every row of the table's places
pub record Handed : Type 0 where
  pub told : Told
  pub clog : List ℕ
  pub rows : List (List ℕ)

abbrev pub handed : ℕ → List ℕ → List ℕ → List (List ℕ) → Handed
handed number values clog rows = record { told = said number values; clog = clog; rows = rows }

-- The values are the clog's length and how many entries the table has. The entries go over the front of the host's 256 rows, which hold every table. A refused load has
-- an empty table and tells no length: no row is stored, and the values are zeros.
unfoldable pub handed_by : List (List ℕ) → LoadOutcome → Handed
handed_by old o =
    handed o.told.number (four (get_or o.told.values 0 0 ∷ o.table.count ∷ [])) o.bytes (laid_on old (map row_of (list_of o.table)))
