-- The plan of a call, with its pages and their slots in front of the arrays and zeros after them. What a kind of call does not use is 0. Assumes nothing.
use Rattle.std.specs.Prelude.{List}
use Rattle.fields.specs.declared.TransactionId.{TransactionId}
use Rattle.fields.specs.declared.CommitTime.{CommitTime}
use Rattle.fields.specs.Answers.{no_id, no_time}
use Rattle.table.specs.Entries.{next64}
use Rattle.meta.specs.declared.Counters.{Counters}
use Rattle.picks.specs.Picks.{Seat, picked_of}
use Rattle.stores.specs.declared.Kind.{Kind}
use Rattle.stores.specs.declared.Plan.{Plan}

unfoldable pub plan_of : Kind → TransactionId → CommitTime → List Seat → Counters → Plan
plan_of kind id time seats meta =
    let p = picked_of 64 seats in
    record { kind = kind; id = id; time = time; pages = p.pages; slots = p.slots; n = p.n; meta = meta }

abbrev pub no_counters : Counters
no_counters = record { next = no_id; time = no_time; mark = no_id }

-- the counters after a commit, and after an advance of the mark
abbrev pub timed : Counters → Counters
timed c = record { next = c.next; time = record { 0 = next64 c.time.0 }; mark = c.mark }

abbrev pub marked : TransactionId → Counters → Counters
marked w c = record { next = c.next; time = c.time; mark = w }
