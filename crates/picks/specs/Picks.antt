-- The touched pages that a call deals with: those resident, of these all, the data pages or the catalog pages, in the order of the touched pages, each with
-- the slot of its frame. Assumes nothing.
use Rattle.std.specs.Prelude.{ℕ, ◌-◌, List, ◌++◌, map, Bool, true, not, length, replicate}
use Rattle.frames.specs.Pages.{is_in, slot_of}
use Rattle.world.specs.Calls.{keep, is_catalog}
use Rattle.picks.specs.declared.Which.{Which}
use Rattle.picks.specs.declared.Which.TheVariants.{All, Data, Catalog}
use Rattle.picks.specs.declared.Picked.{Picked}

-- which pages are wanted
abbrev pub wants : Which → List ℕ → ℕ → Bool
wants All list p = true
wants Data list p = not (is_catalog list p)
wants Catalog list p = is_catalog list p

-- of the touched pages those that are resident and wanted
unfoldable pub chosen : Which → List ℕ → List ℕ → List ℕ → List ℕ
chosen which list resident touched = keep (wants which list) (keep (λ p. is_in p resident) touched)

-- a page and its slot
pub record Seat : Type 0 where
  pub page : ℕ
  pub slot : ℕ

abbrev pub seat : ℕ → ℕ → Seat
seat p k = record { page = p; slot = k }

abbrev pub seats_of : List ℕ → List ℕ → List Seat
seats_of resident ps = map (λ p. seat p (slot_of p resident)) ps

-- the arrays of N places with the seats in front, and zeros after them
unfoldable pub picked_of : ℕ → List Seat → Picked
picked_of N l =
    record {
      pages = map (λ s. s.page) l ++ replicate (N - length l) 0;
      slots = map (λ s. s.slot) l ++ replicate (N - length l) 0;
      n = length l;
    }
