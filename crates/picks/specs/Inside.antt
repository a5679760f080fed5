-- What the contracts of private functions cite: one page more is picked; a reader of the public ones need not know it. Assumes nothing.
use Rattle.std.specs.Prelude.{ℕ, ◌+◌, List, [], ◌∷◌, Bool, true, false, set}
use Rattle.picks.specs.declared.Picked.{Picked}
use Rattle.picks.specs.Picks.{Seat, seat}

-- one page, at the slot that a look-up found, if it is wanted
abbrev pub seat_if : Bool → ℕ → List ℕ → List Seat
seat_if false p vs = []
seat_if true p [] = []
seat_if true p (k ∷ vs) = seat p k ∷ []

-- with the first of these seats, if there is one, at the count
abbrev pub grown : Picked → List Seat → Picked
grown p [] = p
grown p (s ∷ ss) = record { pages = set p.pages p.n s.page; slots = set p.slots p.n s.slot; n = p.n + 1 }
