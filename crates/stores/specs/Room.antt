-- Stores carried out, or refused for lack of room with nothing changed. The numbers in their order: 1 a file's buffer over its limit or its length over its
-- buffer; 14 a log or a clog shorter than its header, 8; 4, 5, 6 log, database, clog would outgrow its buffer, all the stores counted.
-- P is the page size. Assumes nothing.
use Rattle.std.specs.Prelude.{ℕ, List, cond, take, ltb, Result, Ok, Err}
use Rattle.fields.specs.declared.refusal.Refusal.{Refusal}
use Rattle.fields.specs.Refusals.{number_of}
use Rattle.fields.specs.Files.{room, unfit}
use Rattle.world.specs.declared.Lens.{Lens}
use Rattle.world.specs.World.{Files, files_of, lens_of}
use Rattle.world.specs.Steps as world
use Rattle.world.specs.Steps.{apply_all}
use Rattle.world.specs.Refusals.{or_else, room_no}
use Rattle.world.specs.Run.{decided}

-- ---- the numbers

-- 1 and 14, by the lengths and the sizes of the three buffers
unfoldable pub form_no : Lens → ℕ → ℕ → ℕ → ℕ
form_no n log db clog =
    cond (unfit 16777216 log n.log) 1
    (cond (unfit 16777216 db n.db) 1
    (cond (unfit 1048576 clog n.clog) 1
    (cond (ltb n.log 8) 14
    (cond (ltb n.clog 8) 14 0))))

-- the number of the stores ss on the files f, 0 where they are accepted
unfoldable pub number_for : ℕ → List world.Step → Files → ℕ
number_for P ss f = or_else (form_no (lens_of f) (room f.log) (room f.db) (room f.clog)) (room_no P ss f)

-- ---- what is left: the number, and the files with the first k stores carried out, or as they were

pub record Carried : Type 0 where
  pub number : ℕ
  pub files : Files

-- where stores that were carried out stop: their number, and the lengths of the files; refused ones leave the lengths n
pub record Cut : Type 0 where
  pub number : ℕ
  pub lens : Lens

abbrev pub cut : Lens → Result Lens Refusal → Cut
cut n (Ok at) = record { number = 0; lens = at }
cut n (Err r) = record { number = number_of r; lens = n }

abbrev pub cut_of : Cut → List ℕ → List ℕ → List ℕ → Carried
cut_of r log db clog = record { number = r.number; files = files_of r.lens log db clog }

unfoldable pub carried : ℕ → List world.Step → ℕ → Files → Carried
carried P ss k f = record { number = number_for P ss f; files = decided (number_for P ss f) (apply_all P (take k ss) f) f }
