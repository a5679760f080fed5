-- A reader of a log: the log's buffer, its length and a place. P is the page size. Assumes nothing.
use Rattle.std.specs.Prelude.{ℕ, ◌+◌, List, cond, drop}
use Rattle.std.specs.Borrow.{Bor}
use Rattle.fields.specs.Files.{File, file_of, content}
use Rattle.wal.specs.Records.{Front, ended, torn, unknown, one, decode}
use Rattle.wal.specs.Reading.{outside}
use Rattle.reader.specs.declared.LogReader.{LogReader}

-- the place after what stands at a place: after the record, or the place itself where no whole record stands
abbrev pub after_of : ℕ → Front → ℕ
after_of at ended = at
after_of at (torn missing) = at
after_of at unknown = at
after_of at (one r n) = at + n

unfoldable pub after_in : ℕ → File → ℕ → ℕ
after_in P f at = cond (outside f at) at (after_of at (decode P (drop at (content f))))

abbrev pub reader_at : Bor (List ℕ) → ℕ → ℕ → LogReader
reader_at log len at = record { log = log; len = len; at = at }

-- the file that a reader reads
abbrev pub file_in : LogReader → File
file_in r = file_of r.log.now r.len

-- the same log at another place
abbrev pub moved : LogReader → ℕ → LogReader
moved r at = reader_at r.log r.len at
