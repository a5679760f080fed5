-- The images of a log laid into a database, each at page number times P, whether or not a commit follows, up to the first bad record. What lies past the
-- database's buffer is not laid; an opening that has such an image was refused before. P is the page size. Assumes nothing.
use Rattle.std.specs.Prelude.{ℕ, cond}
use Rattle.fields.specs.Files.{File, room, unfit}
use Rattle.opening.specs.Opening.{records, replay}

-- a log whose buffer is over its limit, or whose length is over its buffer, is not read
unfoldable pub laid_from : ℕ → File → File → File
laid_from P log db = cond (unfit 16777216 (room log) log.len) db (replay P (records P log) db)
