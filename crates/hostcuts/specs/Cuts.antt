-- A call with stores, cut, counted or told for a host: the answer is a number and four values, all of them always written. Assumes nothing.
use Rattle.std.specs.Prelude.{ℕ, List, [], ◌∷◌}
use Rattle.fields.specs.Answers.{Told}
use Rattle.world.specs.declared.Lens.{Lens}
use Rattle.world.specs.World.{lens_of}
use Rattle.stores.specs.Room.{Carried}
use Rattle.ready.specs.Ready.{Counted, ToldCall}
use Rattle.words.specs.Values.{said, four}

-- ---- cut

-- the answer and the values, and every byte of the three files
pub record Stopped : Type 0 where
  pub answer : Told
  pub log : List ℕ
  pub db : List ℕ
  pub clog : List ℕ

abbrev pub stopped : Told → List ℕ → List ℕ → List ℕ → Stopped
stopped a log db clog = record { answer = a; log = log; db = db; clog = clog }

-- the lengths of log, database and clog
unfoldable pub lens_given : ℕ → Lens → Told
lens_given n lens = said n (four (lens.log ∷ lens.db ∷ lens.clog ∷ []))

unfoldable pub stopped_at : Carried → Stopped
stopped_at r = stopped (lens_given r.number (lens_of r.files)) r.files.log.bytes r.files.db.bytes r.files.clog.bytes

-- ---- counted: the number of stores

unfoldable pub count_given : Counted → Told
count_given n = said n.number (four (n.stores ∷ []))

-- ---- told: kind, offset and length of a store; the kinds are 1 append, 2 page, 3 clog, 4 truncation

unfoldable pub told_given : ToldCall → Told
told_given t = said t.number (four t.values)
