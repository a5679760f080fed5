use Rattle.std.proofs.Common.{◌<◌}
use Rattle.turns.proofs.sum.Given as goal

abbrev pub invariant-loop-byte : goal.invariant-loop-byte
invariant-loop-byte l = l.total < 65521
