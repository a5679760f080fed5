-- Torn logs, computed. Assumes nothing.
use mathlib.Core.Path.{◌≡◌, refl}
use mathlib.Core.List.{[], ◌∷◌, ◌++◌}
use lib.ListN.{take}
use Rattle.fields.specs.Bytes.{le_of, bytes_of, starts}
use Rattle.wal.specs.Records.{log_magic, begin, commit, encode, body_of, record_of, decode, clean, cut, strange, parse, start_of, log_of}
use Rattle.torn.specs.Torn.{tail_no, met, unmet, met_in}

-- the magic and a single 01, at document 01's page size: at 8, and 4,100 bytes short
single : log_of 4096 (log_magic ++ (1 ∷ [])) ≡ record { found = []; ending = cut 8 4100 }
unfolding log_of start_of starts log_magic parse decode body_of
single = refl

-- a begin, and 4 of a commit's 17 bytes; the same with the bytes of the begin alone; and with an unknown tag in their place
begun : log_of 64 (log_magic ++ (encode (begin 5) ++ take 4 (encode (commit 5 9)))) ≡ record { found = record { at = 8; what = begin 5 } ∷ []; ending = cut 17 13 }
unfolding log_of start_of starts log_magic parse decode body_of record_of encode bytes_of le_of
begun = refl

alone : log_of 64 (log_magic ++ encode (begin 5)) ≡ record { found = record { at = 8; what = begin 5 } ∷ []; ending = clean }
unfolding log_of start_of starts log_magic parse decode body_of record_of encode bytes_of le_of
alone = refl

unknown-tag : log_of 64 (log_magic ++ (encode (begin 5) ++ (9 ∷ []))) ≡ record { found = record { at = 8; what = begin 5 } ∷ []; ending = strange 17 }
unfolding log_of start_of starts log_magic parse decode body_of record_of encode bytes_of le_of
unknown-tag = refl

-- their numbers in this mode, and what is told
numbers : tail_no (cut 17 13) ∷ tail_no clean ∷ tail_no (strange 17) ∷ [] ≡ 0 ∷ 0 ∷ 3 ∷ []
numbers = refl

told : met_in (cut 17 13) ∷ met_in clean ∷ met_in (strange 17) ∷ [] ≡ met 17 13 ∷ unmet ∷ unmet ∷ []
told = refl
