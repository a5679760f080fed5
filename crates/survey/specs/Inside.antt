-- What the contracts of private functions cite: a pass over the log record by record. P is the page size. Assumes nothing.
use Rattle.std.specs.Prelude.{ℕ, ◌||◌}
use Rattle.wal.specs.declared.WalRecord.{WalRecord}
use Rattle.wal.specs.declared.WalRecord.TheVariants.{Image, Begin, Commit, Abort, Checkpoint}
use Rattle.wal.specs.declared.Read.{Read}
use Rattle.wal.specs.declared.Read.TheVariants.{Found, End, Torn, Unknown, Outside}
use Rattle.table.specs.declared.Status.TheVariants.{Committed, Aborted}
use Rattle.table.specs.declared.Entry.{Entry}
use Rattle.rows.specs.Rows.{held_row}
use Rattle.opening.specs.Opening.{past_clog}
use Rattle.scan.specs.Inside.{image_past}
use Rattle.survey.specs.Survey.{Survey}

unfoldable pub with_image : ℕ → ℕ → ℕ → Survey → Survey
with_image P size page s = record { images = image_past P size page || s.images; ids = s.ids; held = s.held; ending = s.ending }

unfoldable pub with_status : ℕ → Entry → Survey → Survey
with_status size e s = record { images = s.images; ids = past_clog size e || s.ids; held = held_row 256 s.held e; ending = s.ending }

abbrev pub with_ending : ℕ → Survey → Survey
with_ending n s = record { images = s.images; ids = s.ids; held = s.held; ending = n }

-- by the record that was read
abbrev pub with_record : ℕ → ℕ → ℕ → WalRecord → Survey → Survey
with_record P db clog (Image page place) s = with_image P db page s
with_record P db clog (Begin id) s = with_status clog (record { id = id; status = Aborted }) s
with_record P db clog (Commit id time) s = with_status clog (record { id = id; status = Committed time }) s
with_record P db clog (Abort id) s = with_status clog (record { id = id; status = Aborted }) s
with_record P db clog Checkpoint s = s

abbrev pub with_read : ℕ → ℕ → ℕ → Read → Survey → Survey
with_read P db clog (Found r next) s = with_record P db clog r s
with_read P db clog End s = s
with_read P db clog (Torn missing) s = with_ending 2 s
with_read P db clog Unknown s = with_ending 3 s
with_read P db clog Outside s = s
