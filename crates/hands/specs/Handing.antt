-- The table's entries handed out into a lent slice: all of them in front, ascending by id, and what stands after the last stays. Refusals in their order: what the
-- tests before it refused, 14 a table out of form, 13 a slice shorter than the table. A refusal changes no entry of the slice. N is the table's limit.
-- Assumes nothing.
use Rattle.std.specs.Prelude.{ℕ, zero, suc, List, [], ◌∷◌, cond, length, ltb, Result, Ok, Err}
use Rattle.fields.specs.declared.refusal.Refusal.{Refusal}
use Rattle.fields.specs.Answers.{Told, told}
use Rattle.sorted.specs.Sorted.{laid_on}
use Rattle.table.specs.declared.Entry.{Entry}
use Rattle.table.specs.declared.Table.{Table}
use Rattle.table.specs.Entries.{list_of, well_formed}

-- what a hand-out tells, its number and how many entries, and every entry of the slice
pub record Handed : Type 0 where
  pub told : Told
  pub slice : List Entry

abbrev pub handed_as : Result ℕ Refusal → List Entry → Handed
handed_as a slice = record { told = told a; slice = slice }

-- of an answer that has its refusal by number
abbrev pub numbered_as : Result ℕ ℕ → List Entry → Handed
numbered_as (Ok n) slice = record { told = record { number = 0; values = n ∷ [] }; slice = slice }
numbered_as (Err number) slice = record { told = record { number = number; values = [] }; slice = slice }

-- the entries l handed out into a slice, where the number is 0
unfoldable pub handed_by : List Entry → List Entry → ℕ → Handed
handed_by l slice zero = record { told = record { number = 0; values = length l ∷ [] }; slice = laid_on slice l }
handed_by l slice (suc n) = record { told = record { number = suc n; values = [] }; slice = slice }

-- 13 of n entries and a slice of room entries
abbrev pub short_no : ℕ → ℕ → ℕ
short_no n room = cond (ltb room n) 13 0

unfoldable pub hand_no : ℕ → Table → ℕ → ℕ → ℕ
hand_no N t room zero = cond (well_formed N t) (short_no t.count room) 14
hand_no N t room (suc before) = suc before

unfoldable pub handed : ℕ → Table → List Entry → ℕ → Handed
handed N t slice before = handed_by (list_of t) slice (hand_no N t (length slice) before)
