-- What the contracts of private functions cite: the room that stores need, and what is told of them by the lengths alone; a reader of the public ones need not know it. P is the page size. Assumes nothing.
use Rattle.std.specs.Prelude.{ℕ, ◌+◌, ◌*◌, ◌/◌, ◌≤◌, ◌-◌, max, List, [], ◌∷◌, cond, ltb}
use Rattle.fields.specs.Files.{room}
use Rattle.world.specs.World.{Files}
use Rattle.world.specs.Steps as world
use Rattle.world.specs.Steps.{log_bytes, db_end, clog_end, sum_of, most_of, telling}
use Rattle.stores.specs.declared.Step.{Step}
use Rattle.stores.specs.declared.Step.TheVariants.{LogImage, LogBegin, LogCommit, LogAbort, LogCheckpoint, WritePage, WriteMeta, SetSlot, Compact, Truncate}
use Rattle.stores.specs.declared.Needs.{Needs}
use Rattle.clog.specs.Slots.{span_below}
use Rattle.world.specs.declared.Lens.{Lens}

-- bytes appended to the log, and the furthest end in database and clog: of stores, and of one store of a plan
abbrev pub needing : ℕ → ℕ → ℕ → Needs
needing log db clog = record { log = log; db = db; clog = clog }

abbrev pub needs_of : ℕ → List world.Step → Needs
needs_of P ss = needing (sum_of log_bytes ss) (most_of (db_end P) ss) (most_of clog_end ss)

unfoldable pub cost_of : ℕ → Step → Needs
cost_of P (LogImage p k) = needing (5 + P) 0 0
cost_of P (LogBegin id) = needing 9 0 0
cost_of P (LogCommit id time) = needing 17 0 0
cost_of P (LogAbort id) = needing 9 0 0
cost_of P LogCheckpoint = needing 1 0 0
cost_of P (WritePage p k) = needing 0 (p * P + P) 0
cost_of P (WriteMeta m) = needing 0 P 0
cost_of P (SetSlot id s) = needing 0 0 (8 + id.0 / 4 + 1)
cost_of P (Compact w) = needing 0 0 0
cost_of P Truncate = needing 0 0 0

-- 4, 5, 6, by the log's length and the sizes of the buffers
unfoldable pub short_no : Needs → ℕ → ℕ → ℕ → ℕ → ℕ
short_no w len log db clog = cond (ltb log (len + w.log)) 4 (cond (ltb db w.db) 5 (cond (ltb clog w.clog) 6 0))

-- there is room for the stores ss, and the log and the clog have their headers
pub record Enough (P : ℕ) (ss : List world.Step) (f : Files) : Type 0 where
  pub log_header : 8 ≤ f.log.len
  pub log_fits : f.log.len + sum_of log_bytes ss ≤ room f.log
  pub log_limit : room f.log ≤ 16777216
  pub db_fits : most_of (db_end P) ss ≤ room f.db
  pub clog_header : 8 ≤ f.clog.len
  pub clog_len : f.clog.len ≤ room f.clog
  pub clog_fits : most_of clog_end ss ≤ room f.clog
  pub clog_limit : room f.clog ≤ 1048576

unfoldable pub told_by : ℕ → Step → Lens → world.Telling
told_by P (LogImage p k) n = telling 1 n.log (5 + P)
told_by P (LogBegin id) n = telling 1 n.log 9
told_by P (LogCommit id time) n = telling 1 n.log 17
told_by P (LogAbort id) n = telling 1 n.log 9
told_by P LogCheckpoint n = telling 1 n.log 1
told_by P (WritePage p k) n = telling 2 (p * P) P
told_by P (WriteMeta m) n = telling 2 0 P
told_by P (SetSlot id s) n = telling 3 (8 + id.0 / 4) 1
told_by P (Compact w) n = telling 3 8 (span_below (n.clog - 8) w.0)
told_by P Truncate n = telling 4 0 8

abbrev pub lens : ℕ → ℕ → ℕ → Lens
lens log db clog = record { log = log; db = db; clog = clog }

unfoldable pub lens_after : ℕ → Step → Lens → Lens
lens_after P (LogImage p k) n = lens (n.log + (5 + P)) n.db n.clog
lens_after P (LogBegin id) n = lens (n.log + 9) n.db n.clog
lens_after P (LogCommit id time) n = lens (n.log + 17) n.db n.clog
lens_after P (LogAbort id) n = lens (n.log + 9) n.db n.clog
lens_after P LogCheckpoint n = lens (n.log + 1) n.db n.clog
lens_after P (WritePage p k) n = n
lens_after P (WriteMeta m) n = n
lens_after P (SetSlot id s) n = lens n.log n.db (max n.clog (8 + id.0 / 4 + 1))
lens_after P (Compact w) n = n
lens_after P Truncate n = lens 8 n.db n.clog

unfoldable pub tell_steps : ℕ → List Step → Lens → List world.Telling
tell_steps P [] n = []
tell_steps P (s ∷ ss) n = told_by P s n ∷ tell_steps P ss (lens_after P s n)
