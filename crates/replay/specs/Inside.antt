-- What the contracts of private functions cite: one image laid; a reader of the public ones need not know it. P is the page size. Assumes nothing.
use Rattle.std.specs.Prelude.{ℕ, ◌*◌, List, cond, length, eqb}
use Rattle.fields.specs.Files.{File, lay}
use Rattle.wal.specs.declared.WalRecord.{WalRecord}
use Rattle.wal.specs.declared.WalRecord.TheVariants.{Image, Begin, Commit, Abort, Checkpoint}
use Rattle.wal.specs.declared.Read.{Read}
use Rattle.wal.specs.declared.Read.TheVariants.{Found, End, Torn, Unknown, Outside}

-- the page number of an image that was read; 0 where no image was read
abbrev pub record_page : WalRecord → ℕ
record_page (Image page place) = page
record_page (Begin id) = 0
record_page (Commit id time) = 0
record_page (Abort id) = 0
record_page Checkpoint = 0

abbrev pub read_page : Read → ℕ
read_page (Found r next) = record_page r
read_page End = 0
read_page (Torn missing) = 0
read_page Unknown = 0
read_page Outside = 0

-- page bytes laid at page number times P; there are none where no image was read
unfoldable pub laid_page : ℕ → ℕ → List ℕ → File → File
laid_page P page bytes db = cond (eqb (length bytes) 0) db (lay db (page * P) bytes)
