-- A second mode of opening: a torn last record is the end of the log. All else is as in the first mode, the crate opening's: there the records are already those
-- before the first bad one, and only the number of the log's ending differs. A torn record is always the last that is read, so this mode never gives 2. An unknown
-- tag is refused with 3 as before. That a torn record was met is told of an accepted opening: where its tag stands, and how many bytes it lacks. P is the page
-- size. Assumes nothing.
use Rattle.std.specs.Prelude.{ℕ, List}
use Rattle.wal.specs.Records.{Ending, clean, cut, strange}
use Rattle.world.specs.World.{Files}
use Rattle.world.specs.Run.{decided}
use Rattle.opening.specs.Opening.{end_of, number_by, Opening, opened_by}

-- the number of an ending in this mode
abbrev pub tail_no : Ending → ℕ
tail_no clean = 0
tail_no (cut at missing) = 0
tail_no (strange at) = 3

unfoldable pub torn_no : ℕ → Files → List ℕ → ℕ
torn_no P f frames = number_by P (tail_no (end_of P f.log)) f frames

unfoldable pub opening_torn : ℕ → Files → List ℕ → Opening
opening_torn P f frames = opened_by P (torn_no P f frames) f frames

-- a torn record: none, or where its tag stands and how many bytes it lacks
pub data Met : Type 0 where
  unmet : Met
  met : ℕ → ℕ → Met

abbrev pub met_in : Ending → Met
met_in clean = unmet
met_in (cut at missing) = met at missing
met_in (strange at) = unmet

-- the one that an opening met
unfoldable pub torn_met : ℕ → Files → List ℕ → Met
torn_met P f frames = decided (torn_no P f frames) (met_in (end_of P f.log)) unmet
