-- What each call gives: what it tells, and every byte of its buffer. A refusal changes no byte; its number is that of the first test that fails. Document 02, Q-12:
--   "files move both ways"                                                                            moved_second, moved_first
--   "record, compact and load are proved once over the base, 0 for the old form"                      crate clog: set_slot, clear_slots, entries_in, settled over a
--                                                                                                     header's length and a base; here 13 and the file's base
--   "compaction keeps the base"                                                                       compacted_second: only slots are cleared
--   "22 .., 23 .., 24 recording below the base, 13 an output too short; 23 first, 13 last"            second_no, first_no, form_no, clog's record_no
-- As in every clog call 1 comes before these: a buffer over 1,048,576 bytes, a length over its buffer, an old form under 8 bytes. An output is a plain slice, but
-- no old form has more than 1,048,576 bytes: a longer one gives 13. Assumes nothing.
use Rattle.std.specs.Prelude.{ℕ, ◌-◌, ◌/◌, min, List, cond, not, length, take, drop, ltb}
use Rattle.std.proofs.lemmas.List.Edits.{sets}
use Rattle.fields.specs.Bytes.{starts, big_bytes}
use Rattle.fields.specs.Files as files
use Rattle.fields.specs.Files.{File, file_of, content, room}
use Rattle.fields.specs.Answers.{Outcome, decided}
use Rattle.clog.specs.Slots.{clog_magic, set_slot, clear_slots, entries_in, settled}
use Rattle.clog.specs.Calls.{unfit, record_no, load_no, LoadOutcome, load_decided}
use Rattle.shrunk.specs.Form.{base_of, misfits, base_under, to_second, to_first, any_nonzero}

-- ---- the refusals, 0 where there is none

-- of the move to the second form into an output of this size
unfoldable pub second_no : ℕ → File → ℕ → ℕ
second_no mark f size =
    let body = drop 8 (content f) in
    cond (unfit 8 (room f) f.len) 1
    (cond (not (starts clog_magic (content f))) 23
    (cond (any_nonzero (take (base_under mark (length body) / 4) body)) 22
    (cond (ltb size (length (to_second mark (content f)))) 13 0)))

-- of a call on a file of the second form: 1 and 23, then what the call itself is refused with
unfoldable pub form_no : File → ℕ → ℕ
form_no f number = cond (files.unfit 1048576 (room f) f.len) 1 (cond (misfits (content f)) 23 number)

unfoldable pub first_no : File → ℕ → ℕ
first_no f size = form_no f (cond (ltb (min 1048576 size) (length (to_first (content f)))) 13 0)

-- ---- moving into an output

-- ys over the front of an output: a file of their length
unfoldable pub written : List ℕ → List ℕ → File
written out ys = file_of (sets out 0 ys) (length ys)

unfoldable pub moved_second : ℕ → File → List ℕ → Outcome
moved_second mark f out = decided (second_no mark f (length out)) (file_of out 0) (written out (to_second mark (content f)))

unfoldable pub moved_first : File → List ℕ → Outcome
moved_first f out = decided (first_no f (length out)) (file_of out 0) (written out (to_first (content f)))

-- ---- record, compact and load in a file of the second form

-- the length that the file states follows its length
unfoldable pub relength : File → File
relength f = file_of (sets f.bytes 0 (big_bytes 4 (f.len - 4))) f.len

-- the id's slot becomes c
unfoldable pub recorded_second : File → ℕ → ℕ → Outcome
recorded_second f id c =
    let base = base_of (content f) in
    decided (form_no f (record_no 13 base id (room f) f.len)) f (relength (set_slot 13 (id - base) c f))

-- the slots of the ids under w become 0
unfoldable pub compacted_second : File → ℕ → Outcome
compacted_second f w = decided (form_no f 0) f (clear_slots 13 (w - base_of (content f)) f)

-- a table of N places
unfoldable pub loaded_second : ℕ → File → LoadOutcome
loaded_second N f = load_decided N (form_no f (load_no N 13 f)) (entries_in 13 (base_of (content f)) (content f)) f (settled 13 f)
