-- Arrays of page numbers and counts, read as the values of crate frames; what of them is handed back by value. Assumes nothing.
use Rattle.std.specs.Prelude.{ℕ, List, Result, Ok, Err}
use Rattle.fields.specs.declared.refusal.Refusal.{Refusal}
use Rattle.fields.specs.Refusals.{number_of}
use Rattle.frames.specs.declared.Frames.{Frames}
use Rattle.frames.specs.declared.Touched.{Touched}
use Rattle.frames.specs.Pages.{Seated, Marked}

abbrev pub frames_in : List ℕ → ℕ → Frames
frames_in pages count = record { pages = pages; count = count }

abbrev pub touched_in : List ℕ → ℕ → Touched
touched_in pages count = record { pages = pages; count = count }

-- a number, and the array and count that it comes with
abbrev pub seated_in : ℕ → List ℕ → ℕ → Seated
seated_in number pages count = record { number = number; frames = frames_in pages count }

abbrev pub marked_in : ℕ → List ℕ → ℕ → Marked
marked_in number pages count = record { number = number; touched = touched_in pages count }

-- the number and the count of a seat and of a mark
pub record Kept : Type 0 where
  pub number : ℕ
  pub count : ℕ

abbrev pub seat_kept : Seated → Kept
seat_kept s = record { number = s.number; count = s.frames.count }

abbrev pub mark_kept : Marked → Kept
mark_kept m = record { number = m.number; count = m.touched.count }

-- a result where n pages were held: refused, it leaves that many
abbrev pub kept_in : ℕ → Result ℕ Refusal → Kept
kept_in n (Ok m) = record { number = 0; count = m }
kept_in n (Err r) = record { number = number_of r; count = n }

-- with the array
abbrev pub seated_by : ℕ → Result ℕ Refusal → List ℕ → Seated
seated_by n (Ok m) pages = seated_in 0 pages m
seated_by n (Err r) pages = seated_in (number_of r) pages n

abbrev pub marked_by : ℕ → Result ℕ Refusal → List ℕ → Marked
marked_by n (Ok m) pages = marked_in 0 pages m
marked_by n (Err r) pages = marked_in (number_of r) pages n
