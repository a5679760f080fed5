-- `fields::put_u64` meets its contract: the library's bytes are those of `bytes_of`. Assumes nothing.
use Rattle.std.proofs.Common.{ap, ◌∙◌, arith}
use Rattle.std.proofs.lemmas.List.Edits.{sets}
use Rattle.fields.proofs.Words.{write-8}
use Rattle.fields.proofs.put_u64.Goals as goal

pub returns : goal.returns
returns c = c.lay.ensures ∙ ap (λ ys. sets c.args.b.now c.args.at ys) (c.to_le_bytes.ensures ∙ write-8 c.args.v (omega arith))
