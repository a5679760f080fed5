-- One pass over a log's records that changes no file, before an opening changes anything. Found are: whether an image lies past the database's buffer (5), whether an
-- id's byte lies past the clog's buffer (6), how the log ends, and the log's table, in rows that are lent: of each id its last status, where Active is Aborted at
-- once, as no transaction goes on after an opening. From the 257th id on no row changes, 7; 5 and 6 are tested on. P is the page size. Assumes nothing.
use Rattle.std.specs.Prelude.{ℕ, List, map, Bool, false, cond}
use Rattle.fields.specs.Refusals.{number_in}
use Rattle.fields.specs.Files.{File, room, unfit}
use Rattle.table.specs.Entries.{active_to_aborted}
use Rattle.rows.specs.Rows.{Rowed, rowed_as, rowed, set_all}
use Rattle.world.specs.Refusals.{any_of}
use Rattle.opening.specs.Opening.{records, end_no, statuses, past_db, past_clog}
use Rattle.survey.specs.declared.Found.{Found}

pub record Survey : Type 0 where
  pub images : Bool
  pub ids : Bool
  pub held : Rowed
  pub ending : ℕ

-- what is answered, and the rows
abbrev pub survey_of : Found → List (List ℕ) → Survey
survey_of r rows = record { images = r.images; ids = r.ids; held = rowed r.held rows; ending = number_in r.ending }

-- nothing found; the number is that of the ending
abbrev pub nothing : List (List ℕ) → ℕ → Survey
nothing rows n = record { images = false; ids = false; held = rowed_as 0 0 rows; ending = n }

-- db and clog are the sizes of those buffers
unfoldable pub found : ℕ → ℕ → ℕ → File → List (List ℕ) → Survey
found P db clog log rows =
    record {
      images = any_of (map (past_db P db) (records P log));
      ids = any_of (map (past_clog clog) (statuses (records P log)));
      held = set_all 256 (rowed_as 0 0 rows) (active_to_aborted (statuses (records P log)));
      ending = end_no P log;
    }

-- a log whose buffer is over its limit, or whose length is over its buffer, is not read: ending 1
unfoldable pub surveyed : ℕ → ℕ → ℕ → File → List (List ℕ) → Survey
surveyed P db clog log rows = cond (unfit 16777216 (room log) log.len) (nothing rows 1) (found P db clog log rows)
