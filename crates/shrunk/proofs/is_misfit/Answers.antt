-- `shrunk::is_misfit` meets its contract: each test adds to what the ones before it say. Assumes nothing.
use Rattle.std.proofs.Common.{arith}
use Rattle.std.proofs.lemmas.Bool.Decides.{nat_tests}
use Rattle.shrunk.specs.Form.{base_of, misfits}
use Rattle.shrunk.specs.Inside.{bad_base}
use Rattle.shrunk.proofs.is_misfit.Goals as goal

pub returns-then-s-ne-VERSION : goal.returns-then-s-ne-VERSION
unfolding misfits base_of
returns-then-s-ne-VERSION c = grind (arith, nat_tests)

pub returns-else-s-ne-VERSION : goal.returns-else-s-ne-VERSION
unfolding misfits base_of bad_base
returns-else-s-ne-VERSION c = grind (arith, nat_tests)
