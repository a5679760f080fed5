-- Closed examples, worked out by the prover: moves both ways, records, a compaction and a load, with refusals. Assumes nothing.
use mathlib.Core.Path.{◌≡◌, refl}
use mathlib.Core.List.{List, [], ◌∷◌, ◌++◌}
use Prim.Native.Nat.{ℕ}
use lib.ListN.{length, replicate}
use Rattle.fields.specs.Bytes.{le_of, bytes_of, be_of, big_bytes, starts}
use Rattle.fields.specs.Files as files
use Rattle.fields.specs.Files.{File, file_of, lay}
use Rattle.fields.specs.Answers.{Outcome, decided}
use Rattle.clog.specs.Slots.{clog_magic, with_bits, high_bits, set_slot, cleared, clear_slots}
use Rattle.clog.specs.Calls.{unfit, record_no}
use Rattle.shrunk.specs.Form.{second_header, second_form, base_of, misfits, base_under, to_second, to_first, any_nonzero}
use Rattle.shrunk.specs.Calls.{second_no, form_no, first_no, written, moved_second, moved_first, relength, recorded_second, compacted_second}

abbrev whole : List ℕ → File
whole xs = file_of xs (length xs)

abbrev out : ℕ → List ℕ → List ℕ → Outcome
out n vs bs = record { told = record { number = n; values = vs }; bytes = bs }

-- ---- to the second form: an old form of this body under a mark, into n bytes of 7

second : ℕ → List ℕ → ℕ → Outcome
unfolding moved_second written second_no to_second second_form second_header base_under big_bytes bytes_of any_nonzero starts clog_magic files.unfit unfit decided
second mark body n = moved_second mark (whole (clog_magic ++ body)) (replicate n 7)

-- the mark 9 gives base 8; the mark 99 gives the body's end
moved : second 9 (0 ∷ 0 ∷ 0x38 ∷ []) 15 ∷ second 99 (0 ∷ []) 13 ∷ []
    ≡ out 0 (14 ∷ []) (0 ∷ 0 ∷ 0 ∷ 10 ∷ 2 ∷ 0 ∷ 0 ∷ 0 ∷ 0 ∷ 0 ∷ 0 ∷ 0 ∷ 8 ∷ 0x38 ∷ 7 ∷ [])
    ∷ out 0 (13 ∷ []) (0 ∷ 0 ∷ 0 ∷ 9 ∷ 2 ∷ 0 ∷ 0 ∷ 0 ∷ 0 ∷ 0 ∷ 0 ∷ 0 ∷ 4 ∷ [])
    ∷ []
unfolding second
moved = refl

-- under the mark 7 the slot of id 4 lies in the byte that the mark parts: it is kept, and no 22; under 8 it lies below the base
parted : second 7 (0 ∷ 1 ∷ []) 14 ∷ second 8 (0 ∷ 1 ∷ []) 14 ∷ []
    ≡ out 0 (14 ∷ []) (0 ∷ 0 ∷ 0 ∷ 10 ∷ 2 ∷ 0 ∷ 0 ∷ 0 ∷ 0 ∷ 0 ∷ 0 ∷ 0 ∷ 4 ∷ 1 ∷ []) ∷ out 22 [] (replicate 14 7) ∷ []
unfolding second
parted = refl

-- 13 comes last
short : second 9 (0 ∷ 0 ∷ 0x38 ∷ []) 13 ∷ second 8 (0 ∷ 1 ∷ []) 0 ∷ [] ≡ out 13 [] (replicate 13 7) ∷ out 22 [] [] ∷ []
unfolding second
short = refl

-- ---- to the old form

first : List ℕ → ℕ → Outcome
unfolding moved_first written first_no form_no to_first misfits base_of be_of le_of clog_magic files.unfit decided
first xs n = moved_first (whole xs) (replicate n 7)

back : first (0 ∷ 0 ∷ 0 ∷ 10 ∷ 2 ∷ 0 ∷ 0 ∷ 0 ∷ 0 ∷ 0 ∷ 0 ∷ 0 ∷ 8 ∷ 0x38 ∷ []) 12 ≡ out 0 (11 ∷ []) (clog_magic ++ (0 ∷ 0 ∷ 0x38 ∷ 7 ∷ []))
unfolding first clog_magic
back = refl

-- a length (as it would be little-endian, too), a version, a base that do not fit; a base of 4,194,276; a header cut short; no room
misfit : first (0 ∷ 0 ∷ 0 ∷ 11 ∷ 2 ∷ 0 ∷ 0 ∷ 0 ∷ 0 ∷ 0 ∷ 0 ∷ 0 ∷ 8 ∷ 0x38 ∷ []) 1
    ∷ first (10 ∷ 0 ∷ 0 ∷ 0 ∷ 2 ∷ 0 ∷ 0 ∷ 0 ∷ 0 ∷ 0 ∷ 0 ∷ 0 ∷ 8 ∷ 0x38 ∷ []) 1
    ∷ first (0 ∷ 0 ∷ 0 ∷ 9 ∷ 1 ∷ 0 ∷ 0 ∷ 0 ∷ 0 ∷ 0 ∷ 0 ∷ 0 ∷ 8 ∷ []) 1
    ∷ first (0 ∷ 0 ∷ 0 ∷ 9 ∷ 2 ∷ 0 ∷ 0 ∷ 0 ∷ 0 ∷ 0 ∷ 0 ∷ 0 ∷ 6 ∷ []) 1
    ∷ first (0 ∷ 0 ∷ 0 ∷ 9 ∷ 2 ∷ 0 ∷ 0 ∷ 0 ∷ 0 ∷ 0 ∷ 0x3F ∷ 0xFF ∷ 0xE4 ∷ []) 1
    ∷ first (0 ∷ 0 ∷ 0 ∷ 8 ∷ 2 ∷ 0 ∷ 0 ∷ 0 ∷ 0 ∷ 0 ∷ 0 ∷ 8 ∷ []) 1
    ∷ first (0 ∷ 0 ∷ 0 ∷ 9 ∷ 2 ∷ 0 ∷ 0 ∷ 0 ∷ 0 ∷ 0 ∷ 0 ∷ 0 ∷ 8 ∷ []) 9
    ∷ []
    ≡ out 23 [] (7 ∷ []) ∷ out 23 [] (7 ∷ []) ∷ out 23 [] (7 ∷ []) ∷ out 23 [] (7 ∷ []) ∷ out 23 [] (7 ∷ []) ∷ out 23 [] (7 ∷ []) ∷ out 13 [] (replicate 9 7) ∷ []
unfolding first
misfit = refl

-- ---- in the second form: a file of base 8 with no packed byte, in a buffer with n bytes more

abbrev bare : List ℕ
bare = 0 ∷ 0 ∷ 0 ∷ 9 ∷ 2 ∷ 0 ∷ 0 ∷ 0 ∷ 0 ∷ 0 ∷ 0 ∷ 0 ∷ 8 ∷ []

recorded : ℕ → ℕ → Outcome
unfolding recorded_second form_no record_no relength set_slot with_bits lay misfits base_of be_of le_of big_bytes bytes_of files.unfit unfit decided
recorded id n = recorded_second (file_of (bare ++ replicate n 0xEE) 13) id 2

-- 9 Committed: the length that is stated goes from 9 to 10. 7 is below the base, 12 past the buffer; 24 comes before 6
records : recorded 9 1 ∷ recorded 7 1 ∷ recorded 12 1 ∷ recorded 7 0 ∷ []
    ≡ out 0 (14 ∷ []) (0 ∷ 0 ∷ 0 ∷ 10 ∷ 2 ∷ 0 ∷ 0 ∷ 0 ∷ 0 ∷ 0 ∷ 0 ∷ 0 ∷ 8 ∷ 8 ∷ [])
    ∷ out 24 [] (bare ++ (0xEE ∷ [])) ∷ out 6 [] (bare ++ (0xEE ∷ [])) ∷ out 24 [] bare ∷ []
unfolding recorded
records = refl

abbrev packed : File
packed = whole (0 ∷ 0 ∷ 0 ∷ 11 ∷ 2 ∷ 0 ∷ 0 ∷ 0 ∷ 0 ∷ 0 ∷ 0 ∷ 0 ∷ 8 ∷ 0x39 ∷ 0xFF ∷ [])

-- below 13 the byte of 8 to 11 is cleared and of the next one a slot; base and length stay
compacts : compacted_second packed 13 ∷ compacted_second packed 3 ∷ []
    ≡ out 0 (15 ∷ []) (0 ∷ 0 ∷ 0 ∷ 11 ∷ 2 ∷ 0 ∷ 0 ∷ 0 ∷ 0 ∷ 0 ∷ 0 ∷ 0 ∷ 8 ∷ 0 ∷ 0xFC ∷ []) ∷ out 0 (15 ∷ []) packed.bytes ∷ []
unfolding compacted_second form_no clear_slots cleared high_bits misfits base_of be_of le_of files.unfit decided
compacts = refl
