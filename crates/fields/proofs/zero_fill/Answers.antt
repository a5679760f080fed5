-- `fields::zero_fill` meets its contract: the zeros that fit are stored. Assumes nothing.
use Rattle.std.proofs.Common.{sym}
use Rattle.fields.proofs.Stored.{zeros-fit, zeros-none}
use Rattle.fields.proofs.zero_fill.Goals as goal

pub returns-then-from-end : goal.returns-then-from-end
returns-then-from-end c = zeros-fit c.args.b.now _ c.args.from c.args.to c.inside-end.result c.inside-end.ensures c.if-from-end.true (c.fill.ensures.after (λ y e. e))

pub returns-else-from-end : goal.returns-else-from-end
returns-else-from-end c = sym (zeros-none c.args.b.now c.args.from c.args.to c.inside-end.result c.inside-end.ensures c.if-from-end.false)
