-- `fields::put_big_u32` meets its contract: the library's bytes are those of `big_bytes`. Assumes nothing.
use Rattle.std.proofs.Common.{ap, ◌∙◌, arith}
use Rattle.std.proofs.lemmas.List.Edits.{sets}
use Rattle.fields.proofs.Words.{write-big-4}
use Rattle.fields.proofs.put_big_u32.Goals as goal

pub returns : goal.returns
returns c = c.lay.ensures ∙ ap (λ ys. sets c.args.b.now c.args.at ys) (c.to_be_bytes.ensures ∙ write-big-4 c.args.v (omega arith))
