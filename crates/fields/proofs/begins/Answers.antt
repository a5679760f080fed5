-- `fields::begins` meets its contract: the library's test is that of `starts`. Assumes nothing.
use Rattle.std.proofs.Common.{◌∙◌}
use Rattle.fields.proofs.Stored.{starts_is}
use Rattle.fields.proofs.begins.Goals as goal

pub returns : goal.returns
returns c = c.starts_with.ensures.value ∙ starts_is c.args.m.now c.args.s.now
