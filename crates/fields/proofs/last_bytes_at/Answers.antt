-- `fields::last_bytes_at` meets its contract: bytes laid at the end of zeros. Assumes nothing.
use Rattle.std.proofs.Common.{ap, ◌+◌, ◌-◌, ◌∙◌, take, drop, arith}
use Rattle.fields.proofs.Words.{last-laid}
use Rattle.fields.proofs.last_bytes_at.Goals as goal

pub returns-then-k-gt0 : goal.returns-then-k-gt0
returns-then-k-gt0 g c = c.lay.ensures ∙ last-laid g.row.N c.inside-k.result c.args.at c.args.b.now _ c.inside-k.ensures (ap (λ j. take j (drop c.args.at c.args.b.now)) {x = c.args.at + c.inside-k.result - c.args.at} (omega arith))
