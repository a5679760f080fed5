-- Hand-outs computed from the definitions, from tables of 2 places into slices of one to three entries. Assumes nothing.
use Prim.Native.Nat.{ℕ}
use mathlib.Core.Path.{◌≡◌, refl}
use mathlib.Core.List.{List, [], ◌∷◌}
use Rattle.sorted.specs.Sorted.{ascending_by}
use Rattle.table.specs.declared.Status.{Status}
use Rattle.table.specs.declared.Status.TheVariants.{Active, Committed, Aborted}
use Rattle.table.specs.declared.Entry.{Entry}
use Rattle.table.specs.declared.Table.{Table}
use Rattle.table.specs.Entries.{well_formed}
use Rattle.hands.specs.Handing.{Handed, handed_by, hand_no, handed}

abbrev entry : ℕ → Status → Entry
entry k s = record { id = record { 0 = k }; status = s }

-- id 3 committed at 9, then id 7 active
abbrev first : Entry
first = entry 3 (Committed (record { 0 = 9 }))

abbrev table : List Entry → ℕ → Table
table es n = record { entries = es; count = n }

abbrev good : Table
good = table (first ∷ entry 7 Active ∷ []) 2

abbrev old : Entry
old = entry 1 Aborted

abbrev answer : ℕ → List ℕ → List Entry → Handed
answer n vs es = record { told = record { number = n; values = vs }; slice = es }

-- both entries, and the third of the slice stays
two-of-three : handed 2 good (old ∷ old ∷ old ∷ []) 0 ≡ answer 0 (2 ∷ []) (first ∷ entry 7 Active ∷ old ∷ [])
unfolding handed handed_by hand_no well_formed ascending_by
two-of-three = refl

-- exactly full
two-of-two : handed 2 good (old ∷ old ∷ []) 0 ≡ answer 0 (2 ∷ []) (first ∷ entry 7 Active ∷ [])
unfolding handed handed_by hand_no well_formed ascending_by
two-of-two = refl

-- a slice one short
one-short : handed 2 good (old ∷ []) 0 ≡ answer 13 [] (old ∷ [])
unfolding handed handed_by hand_no well_formed ascending_by
one-short = refl

-- an empty table fills nothing
empty-table : handed 2 (table (old ∷ old ∷ []) 0) [] 0 ≡ answer 0 (0 ∷ []) []
unfolding handed handed_by hand_no well_formed ascending_by
empty-table = refl

-- ids that do not ascend, and a count over the limit, into a slice that is too short as well
not-ascending : handed 2 (table (entry 7 Active ∷ first ∷ []) 2) (old ∷ []) 0 ≡ answer 14 [] (old ∷ [])
unfolding handed handed_by hand_no well_formed ascending_by
not-ascending = refl

over-the-limit : handed 2 (table (first ∷ entry 7 Active ∷ []) 3) (old ∷ []) 0 ≡ answer 14 [] (old ∷ [])
unfolding handed handed_by hand_no well_formed ascending_by
over-the-limit = refl

-- what the tests before refused comes first
refused-before : handed 2 good (old ∷ []) 1 ≡ answer 1 [] (old ∷ [])
unfolding handed handed_by hand_no well_formed ascending_by
refused-before = refl
