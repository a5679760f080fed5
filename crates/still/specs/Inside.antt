-- What the contracts of private functions cite: a page that is to be read or written, made resident; a reader of the public ones need not know it. P is the page size.
-- Assumes nothing.
use Rattle.std.specs.Prelude.{ℕ, List, Bool, true, Result, Ok, Err}
use Rattle.fields.specs.declared.refusal.Refusal.{Refusal}
use Rattle.fields.specs.Refusals.{number_of}
use Rattle.world.specs.Run.{decided}
use Rattle.quiet.specs.Inside.{SeatTold, seat_of}
use Rattle.lent.specs.declared.Head.{Head}
use Rattle.lent.specs.Lent.{Lent, lent, store_of, laid_lent, unless_odd}
use Rattle.still.specs.declared.Seat.{Seat}

-- the number, whether the page was resident, its slot, and the store where it stands
pub record Placed : Type 0 where
  pub number : ℕ
  pub there : Bool
  pub slot : ℕ
  pub store : Lent

abbrev pub placed : ℕ → Bool → ℕ → Lent → Placed
placed n there slot s = record { number = n; there = there; slot = slot; store = s }

-- where it is refused, the old head
abbrev pub seat_in : Head → Result Seat Refusal → List (List ℕ) → List ℕ → List ℕ → Placed
seat_in h (Ok x) rows resident touched = placed 0 x.there x.slot (lent x.head rows resident touched)
seat_in h (Err r) rows resident touched = placed (number_of r) true 0 (lent h rows resident touched)

-- the seat of a store by value, laid where it stands
abbrev pub laid_seat : Lent → SeatTold → Placed
laid_seat s x = placed x.number x.there x.slot (decided x.number (laid_lent s x.store) s)

unfoldable pub seat_lent : ℕ → ℕ → Lent → List ℕ → List ℕ → List ℕ → List ℕ → Placed
seat_lent P p s log db clog frames =
    unless_odd P s log db clog frames (λ n. placed n true 0 s) (laid_seat s (seat_of P p (store_of s) log db clog frames))
