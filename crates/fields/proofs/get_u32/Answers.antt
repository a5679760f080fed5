-- `fields::get_u32` meets its contract: the part read as a number is the field. Assumes nothing.
use native.Mathlib.Omega.{arith}
use Rattle.fields.proofs.Words.{get-4}
use Rattle.fields.proofs.get_u32.Goals as goal

pub returns : goal.returns
returns c = omega (arith, get-4 c.from_le_bytes.result c.args.at c.args.b.now _ c.bytes_at.ensures c.from_le_bytes.ensures)
