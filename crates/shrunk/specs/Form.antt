-- The second form of a clog: the statuses from a base id on, so that a clog that is mostly zeros takes few bytes. Document 02, Q-12:
--   "length of what follows as 4 bytes big-endian, version byte 2, base id as 8 bytes big-endian, then the packed bytes from the base on"      second_form
--   "the base is a multiple of 4: the mark rounded down, or four times the old body's length if that is smaller"                              base_under
--   "files move both ways"                                                                                                                    to_second, to_first
--   "23 a magic, length, version or base that does not fit, or a base over 4,194,272": of the second form                                     misfits
--   "22 a nonzero slot below the base on the move"                                                                                            any_nonzero
-- So a file of the second form has, by byte:
--   0 to 3     how many bytes follow these four, big-endian: 9 and the packed bytes
--   4          2, the version
--   5 to 12    the base, big-endian: the id of the first slot
--   from 13    the packed bytes, as the old form (crate clog) has them from the base's byte on: four ids to a byte, the lowest in the lowest bits
-- The old form of the same clog is the magic `AEROCLG1`, a byte of zeros for each four ids below the base, and the packed bytes. Assumes nothing.
use Rattle.std.specs.Prelude.{ℕ, ◌+◌, ◌*◌, ◌/◌, ◌%◌, min, List, [], ◌∷◌, ◌++◌, Bool, false, not, ◌||◌, length, drop, get_or, replicate, ltb, eqb}
use Rattle.fields.specs.Bytes.{big_bytes, big_field}
use Rattle.clog.specs.Slots.{clog_magic}

-- ---- the form

-- the 13 bytes before n packed bytes
unfoldable pub second_header : ℕ → ℕ → List ℕ
second_header base n = big_bytes 4 (9 + n) ++ (2 ∷ big_bytes 8 base)

unfoldable pub second_form : ℕ → List ℕ → List ℕ
second_form base packed = second_header base (length packed) ++ packed

-- the base that stands in a file, and its packed bytes
unfoldable pub base_of : List ℕ → ℕ
base_of xs = big_field 8 5 xs

abbrev pub packed_of : List ℕ → List ℕ
packed_of xs = drop 13 xs

-- 23: the file is shorter than its header, its length is not the one that it states, its version is not 2, its base is no multiple of 4 or over the limit. The
-- limit is the base under which the zeros alone fill the largest old form: 4 × (1,048,576 - 8).
unfoldable pub misfits : List ℕ → Bool
misfits xs =
    ltb (length xs) 13 || (not (eqb (4 + big_field 4 0 xs) (length xs)) || (not (eqb (get_or xs 4 0) 2) || (not (eqb (base_of xs % 4) 0) || ltb 4194272 (base_of xs))))

-- ---- moving

-- the base under a mark, for a body of n bytes
unfoldable pub base_under : ℕ → ℕ → ℕ
base_under mark n = min (mark / 4 * 4) (4 * n)

-- what comes after the old form's magic is its body; the slots of the ids below the base are left out
unfoldable pub to_second : ℕ → List ℕ → List ℕ
to_second mark old = let body = drop 8 old in second_form (base_under mark (length body)) (drop (base_under mark (length body) / 4) body)

unfoldable pub to_first : List ℕ → List ℕ
to_first second = clog_magic ++ (replicate (base_of second / 4) 0 ++ packed_of second)

-- a byte that is not 0 has a slot that is not 0
unfoldable pub any_nonzero : List ℕ → Bool
any_nonzero [] = false
any_nonzero (b ∷ bs) = not (eqb b 0) || any_nonzero bs
