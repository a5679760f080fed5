-- `fields::bytes_at` meets its contract: bytes laid over zeros are a part, whether they cover them or not. Assumes nothing.
use Rattle.std.proofs.Common.{◌∙◌, arith, length, take, drop, replicate, ◌-◌}
use lib.ListN.{length-replicate}
use Rattle.fields.proofs.Stored.{copied-over}
use Rattle.fields.proofs.Words.{part-laid, part-past}
use Rattle.fields.proofs.bytes_at.Goals as goal

pub returns-then-b-at : goal.returns-then-b-at
returns-then-b-at g c = part-past g.row.N c.args.b.now c.args.at (omega arith)

pub returns-then-rest : goal.returns-then-rest
returns-then-rest g c = c.last_bytes.ensures ∙ part-laid g.row.N c.args.b.now c.args.at

pub returns : goal.returns
returns g c =
    let b = c.args.b.now in
    copied-over (replicate g.row.N 0) (take (length b - c.args.at) (drop c.args.at b)) _ (rw length-replicate c.if-rest.false) (rw length-replicate c.copy_from_slice.ensures.after)
    ∙ part-laid g.row.N b c.args.at
