-- A store is not always whole: power may go inside it. A store has points at which it may stop. Position 0 is before the store, position n its n-th point, and a
-- position past its last point is the whole store. P is the page size.
--
--   a record appended      after each byte of it; the last point is the whole record
--   a page written         lengthened, to the page's end and with zeros, where the file is shorter than that; then after each sector of 512 bytes, the last one
--                          shorter where 512 does not divide the page. So bytes 0 to 511 of page 0 are one sector
--   a slot set             lengthened, to the end of the slot's byte and with zeros, where the file is shorter than that; else no point
--   slots under a mark     after each byte of the told range, also one that does not change
--   the log cut back       its length 0, then after each byte of the magic; the bytes past the length stay
--   the clog reset         the same of the clog
--
-- What is told of a store, and the count of stores, are those of the whole store. Assumes nothing.
use Rattle.std.specs.Prelude.{ℕ, zero, suc, ◌+◌, ◌-◌, ◌*◌, ◌/◌, List, [], ◌∷◌, cond, length, take, drop, ltb}
use Rattle.std.proofs.lemmas.List.Edits.{sets}
use Rattle.fields.specs.Files.{File, file_of, content, lay, append, header}
use Rattle.wal.specs.Records.{encode, log_magic}
use Rattle.clog.specs.Slots.{clog_magic, cleared, span_below}
use Rattle.world.specs.World.{Files, World}
use Rattle.world.specs.Steps.{Step, Log, Page, SetSlot, Compact, Truncate, Reset, with_log, with_db, with_clog, apply}
use Rattle.world.specs.Calls.{Call, steps}
use Rattle.world.specs.Refusals.{refuses}
use Rattle.world.specs.Run.{decided}

-- ---- files

-- a file that is to reach a place is lengthened first where it is shorter: one point more, and zeros up to there
abbrev pub growth : File → ℕ → ℕ
growth f end = cond (ltb f.len end) 1 0

abbrev pub grown : File → ℕ → File
grown f end = lay f end []

-- the first n of the bytes, at a place; the file is lengthened for all of them
unfoldable pub laid_to : ℕ → File → ℕ → List ℕ → File
laid_to n f at bytes = lay (grown f (at + length bytes)) at (take n bytes)

-- the first n bytes after a header of h, with their slots under w cleared
unfoldable pub cleared_to : ℕ → ℕ → ℕ → File → File
cleared_to n h w f = file_of (sets f.bytes h (take n (cleared w (drop h (content f))))) f.len

-- ---- one store

-- how many points it has on these files
unfoldable pub points : ℕ → Step → Files → ℕ
points P (Log r) f = length (encode r)
points P (Page p bytes) f = growth f.db (p * P + length bytes) + (length bytes + 511) / 512
points P (SetSlot id s) f = growth f.clog (8 + id / 4 + 1)
points P (Compact w) f = span_below (f.clog.len - 8) w
points P Truncate f = 9
points P Reset f = 9

-- the files at point n, from 1 to the last
unfoldable pub stopped : ℕ → ℕ → Step → Files → Files
stopped P n (Log r) f = with_log (append f.log (take n (encode r))) f
stopped P n (Page p bytes) f = with_db (laid_to (512 * (n - growth f.db (p * P + length bytes))) f.db (p * P) bytes) f
stopped P n (SetSlot id s) f = with_clog (grown f.clog (8 + id / 4 + 1)) f
stopped P n (Compact w) f = with_clog (cleared_to n 8 w f.clog) f
stopped P n Truncate f = with_log (header (take (n - 1) log_magic) f.log) f
stopped P n Reset f = with_clog (header (take (n - 1) clog_magic) f.clog) f

-- carried out to a position
unfoldable pub apply_to : ℕ → ℕ → Step → Files → Files
apply_to P zero s f = f
apply_to P (suc n) s f = cond (ltb n (points P s f)) (stopped P (suc n) s f) (apply P s f)

-- ---- stores one after another, and calls

-- cut at the k-th, from 1, at a position inside it: those before it are whole. Number 0 is no store, a number past the count all of them
unfoldable pub cut_all : ℕ → ℕ → ℕ → List Step → Files → Files
cut_all P zero pos ss f = f
cut_all P (suc k) pos [] f = f
cut_all P (suc zero) pos (s ∷ ss) f = apply_to P pos s f
cut_all P (suc (suc k)) pos (s ∷ ss) f = cut_all P (suc k) pos ss (apply P s f)

-- a call cut at store k and position pos: the files alone; a refused one leaves them as they were
unfoldable pub cut_at : ℕ → ℕ → ℕ → Call → World → Files
cut_at P k pos c w = decided (refuses P c w) (cut_all P k pos (steps P c w) w.files) w.files
