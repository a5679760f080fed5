-- The touched pages that a call deals with, picked from lent arrays of which the first t and the first f are held. Assumes nothing.
use Rattle.std.specs.Prelude.{ℕ, List, take}
use Rattle.picks.specs.declared.Which.{Which}
use Rattle.picks.specs.Picks.{Seat, chosen, seats_of}

abbrev pub gathered : Which → List ℕ → List ℕ → ℕ → List ℕ → ℕ → List Seat
gathered which list touched t resident f = seats_of (take f resident) (chosen which list (take f resident) (take t touched))
