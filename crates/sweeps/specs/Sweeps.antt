-- The entries of a clog listed in rows: those of a valid one, in the order of the ids; another clog has none. From the 257th on nothing more is listed, 7.
-- Assumes nothing.
use Rattle.std.specs.Prelude.{cond, ℕ, List}
use Rattle.fields.specs.Files.{File, room, unfit}
use Rattle.rows.specs.Rows.{Rowed, rowed_as, set_all}
use Rattle.opening.specs.Opening.{clog_table}

-- a clog whose buffer is over its limit, or whose length is over its buffer, is not read: 1
unfoldable pub listed : List (List ℕ) → File → Rowed
listed rows clog = cond (unfit 1048576 (room clog) clog.len) (rowed_as 1 0 rows) (set_all 256 (rowed_as 0 0 rows) (clog_table clog))
