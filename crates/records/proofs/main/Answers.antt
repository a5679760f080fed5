-- The log is the buffer but for its last byte.
use Rattle.std.proofs.Common.{arith}
use lib.ListN.{length-take}
use Rattle.records.proofs.main.Goals as goal

pub slice_bounds-list-end : goal.slice_bounds-list-end
slice_bounds-list-end c = simp length-take (omega arith)
