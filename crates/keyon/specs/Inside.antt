-- What the contracts of private functions cite: the tests before a byte changes, and head and rows after an accepted opening, by what page 0 was found to hold
-- after replay. P is the page size. Assumes nothing.
use Rattle.std.specs.Prelude.{◌≡◌, ℕ, ◌/◌, List, map, Bool, cond, ◌||◌, length, take, ltb, eqb, Option, Some, None, Result, Ok, Err}
use Rattle.fields.specs.declared.refusal.Refusal.{Refusal}
use Rattle.fields.specs.Refusals.{number_of}
use Rattle.fields.specs.Answers.{no_id}
use Rattle.fields.specs.Files.{File}
use Rattle.table.specs.declared.Entry.{Entry}
use Rattle.table.specs.declared.Table.{Table}
use Rattle.table.specs.Entries.{empty_table, laid}
use Rattle.rows.specs.declared.Filled.{Filled}
use Rattle.rows.specs.Rows.{entry_of, row_of, Rowed, rowed_as, set_all}
use Rattle.meta.specs.declared.Counters.{Counters}
use Rattle.world.specs.declared.Lens.{Lens}
use Rattle.world.specs.World.{Files}
use Rattle.lent.specs.declared.Head.{Head}
use Rattle.opening.specs.Opening.{log_table, full_table, open_no}
use Rattle.sweeps.specs.Sweeps.{listed}
use Rattle.opens.specs.Inside.{meta_counters, plain_counters}
use Rattle.keyon.specs.declared.Counts.{Counts}

-- the entries of the first n rows, and a table of them
abbrev pub entries_of : ℕ → List (List ℕ) → List Entry
entries_of n rows = map entry_of (take n rows)

abbrev pub tabled : List Entry → Table
tabled l = laid (empty_table 256) l

-- the first n rows are those of the entries l
abbrev pub Holds : ℕ → List (List ℕ) → List Entry → Type 0
Holds n rows l = (n ≡ length l) × (take n rows ≡ map row_of l)

-- 4, 5, 6 from what a pass over the log found, and the sizes of the log's and the clog's buffer
unfoldable pub room_by : Bool → Bool → ℕ → ℕ → ℕ
room_by images ids log clog = cond (ltb log 8) 4 (cond images 5 (cond (ltb clog 8 || ids) 6 0))

-- the log's rows over those that the clog lists; 7 where one of them, or both together, are more than 256
unfoldable pub joined : Filled → List (List ℕ) → File → List (List ℕ) → Rowed
joined h logged clog full = cond (eqb h.number 0) (set_all 256 (listed full clog) (entries_of h.count logged)) (rowed_as 7 0 full)

-- the number of the opening, and how many rows both tables have
pub record Tested : Type 0 where
  pub number : ℕ
  pub logged : ℕ
  pub full : ℕ

abbrev pub tested_of : Result Counts Refusal → Tested
tested_of (Ok c) = record { number = 0; logged = c.logged; full = c.full }
tested_of (Err r) = record { number = number_of r; logged = 0; full = 0 }

-- the number of the opening, and where that is 0 both tables
abbrev pub Tests : ℕ → Files → List ℕ → Tested → List (List ℕ) → List (List ℕ) → Type 0
Tests P f frames r logged full =
    (r.number ≡ open_no P f frames) × (r.number ≡ 0 → Holds r.logged logged (log_table P f.log) × Holds r.full full (full_table P f))

-- no page resident, no transaction
unfoldable pub head_at : ℕ → Lens → Counters → ℕ → Head
head_at P lens c entries =
    record {
      lens = lens;
      pages = lens.db / P;
      next = c.next;
      time = c.time;
      mark = c.mark;
      held = 0;
      id = no_id;
      entries = entries;
      resident = 0;
      touched = 0;
    }

-- the counters and the count, from the log's entries, n of them, and all entries, k of them
abbrev pub head_by : ℕ → Lens → Option Counters → List Entry → ℕ → List Entry → ℕ → Head
head_by P lens (Some m) logged n full k = head_at P lens (meta_counters m (tabled logged) (tabled full)) k
head_by P lens None logged n full k = head_at P lens (plain_counters (tabled logged)) n

-- with a meta page all of them, else those of the log
abbrev pub rows_by : Option Counters → List (List ℕ) → List (List ℕ) → List (List ℕ)
rows_by (Some m) logged full = full
rows_by None logged full = logged
