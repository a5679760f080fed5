-- `fields::get_big_u32` meets its contract: the part read as a number is the field. Assumes nothing.
use Rattle.fields.proofs.Words.{get-big-4}
use Rattle.fields.proofs.get_big_u32.Goals as goal

pub returns : goal.returns
returns c = get-big-4 _ c.args.at c.args.b.now _ c.last_bytes_at.ensures c.from_be_bytes.ensures
