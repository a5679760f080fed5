-- What the contracts of private functions cite: a page that is to be read or written, made resident; a reader of the public ones need not know it. P is the page size. Assumes nothing.
use Rattle.std.specs.Prelude.{ℕ, List, Bool, true, Result, Ok, Err}
use Rattle.fields.specs.declared.refusal.Refusal.{Refusal}
use Rattle.fields.specs.Refusals.{number_of}
use Rattle.frames.specs.Pages.{is_in, slot_of}
use Rattle.world.specs.Calls.{Read}
use Rattle.world.specs.Refusals.{refuses}
use Rattle.world.specs.Run.{done, decided}
use Rattle.form.specs.declared.Store.{Store}
use Rattle.form.specs.Store.{world_of, laid_store}
use Rattle.quiet.specs.declared.Seat.{Seat}

-- a page that is to be read or written: the number, whether it was resident, its slot, and the store with it resident; where it is refused the old store
pub record SeatTold : Type 0 where
  pub number : ℕ
  pub there : Bool
  pub slot : ℕ
  pub store : Store

abbrev pub seat_told : Store → Result Seat Refusal → SeatTold
seat_told s (Ok x) = record { number = 0; there = x.there; slot = x.slot; store = x.store }
seat_told s (Err r) = record { number = number_of r; there = true; slot = 0; store = s }

unfoldable pub seat_of : ℕ → ℕ → Store → List ℕ → List ℕ → List ℕ → List ℕ → SeatTold
seat_of P p s log db clog frames =
    let w = world_of s log db clog frames in
    let n = refuses P (Read p) w in
    record {
      number = n;
      there = decided n (is_in p w.mem.resident) true;
      slot = decided n (slot_of p w.mem.resident) 0;
      store = decided n (laid_store s (done P (Read p) w)) s;
    }
