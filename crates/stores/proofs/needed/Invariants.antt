-- `stores::needed` meets its contract. The invariant: what is counted and what the rest needs make up the whole; the sum stays small. Assumes nothing.
use Rattle.stores.specs.Plans.{meant}
use Rattle.world.specs.Steps.{log_bytes, db_end, clog_end, sum_of, most_of}
use lib.ListN.{drop}
use Prim.Native.Nat.{◌+◌, ◌*◌, ◌≤◌, max}
use mathlib.Core.List.{[]}
use mathlib.Core.Path.{◌≡◌}
use Rattle.stores.proofs.needed.Given as goal

abbrev pub invariant-loop-i : goal.invariant-loop-i
invariant-loop-i l = (l.log ≤ l.i * 4113)
    × (l.log + sum_of log_bytes (drop l.i (meant 4096 [] l.plan)) ≡ sum_of log_bytes (drop l.from (meant 4096 [] l.plan)))
    × (max l.db (most_of (db_end 4096) (drop l.i (meant 4096 [] l.plan))) ≡ most_of (db_end 4096) (drop l.from (meant 4096 [] l.plan)))
    × (max l.clog (most_of clog_end (drop l.i (meant 4096 [] l.plan))) ≡ most_of clog_end (drop l.from (meant 4096 [] l.plan)))
