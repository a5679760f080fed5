-- The number of each refusal, as documents 01 and 02 have them; 0 is the number of a call that is accepted. Assumes nothing.
use Rattle.std.specs.Prelude.{ℕ, Result, Ok, Err}
use Rattle.fields.specs.declared.refusal.Refusal.{Refusal}
use Rattle.fields.specs.declared.refusal.Refusal.TheVariants.{Unfit, Torn, UnknownTag, LogFull, DatabaseFull, ClogFull, TableFull, FramesFull, Occupied, BadPage, TouchedFull, BadVersion, SliceShort, OutOfForm, ActiveAbove, SubCommitted, PartOfPage, SlotBelowBase, BadForm, IdBelowBase}

abbrev pub number_of : Refusal → ℕ
number_of Unfit = 1
number_of Torn = 2
number_of UnknownTag = 3
number_of LogFull = 4
number_of DatabaseFull = 5
number_of ClogFull = 6
number_of TableFull = 7
number_of FramesFull = 8
number_of Occupied = 9
number_of BadPage = 10
number_of TouchedFull = 11
number_of BadVersion = 12
number_of SliceShort = 13
number_of OutOfForm = 14
number_of ActiveAbove = 19
number_of SubCommitted = 20
number_of PartOfPage = 21
number_of SlotBelowBase = 22
number_of BadForm = 23
number_of IdBelowBase = 24

-- the number of an answer
abbrev pub number_in : {A : Type 0} → Result A Refusal → ℕ
number_in (Ok a) = 0
number_in (Err r) = number_of r
