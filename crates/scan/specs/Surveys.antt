-- What an opening has tested and read before it changes a byte: its number, and where that is 0 the log's table and the clog's with the log's laid over it.
-- P is the page size, N the table's limit. Assumes nothing.
use Rattle.std.specs.Prelude.{ℕ, List, Result, Ok, Err}
use Rattle.fields.specs.declared.refusal.Refusal.{Refusal}
use Rattle.fields.specs.Refusals.{number_of}
use Rattle.table.specs.declared.Table.{Table}
use Rattle.table.specs.Entries.{empty_table}
use Rattle.clog.specs.Calls.{table_by}
use Rattle.world.specs.World.{Files}
use Rattle.opening.specs.Opening.{log_table, full_table, open_no}
use Rattle.scan.specs.declared.Tables.{Tables}

pub record Surveyed : Type 0 where
  pub number : ℕ
  pub logged : Table
  pub full : Table

-- what a result tells: a refusal, and both tables empty
abbrev pub surveyed_of : Result Tables Refusal → Surveyed
surveyed_of (Ok t) = record { number = 0; logged = t.logged; full = t.full }
surveyed_of (Err r) = record { number = number_of r; logged = empty_table 256; full = empty_table 256 }

unfoldable pub surveyed : ℕ → Files → List ℕ → Surveyed
surveyed P f frames =
    let n = open_no P f frames in
    record { number = n; logged = table_by 256 n (log_table P f.log); full = table_by 256 n (full_table P f) }
