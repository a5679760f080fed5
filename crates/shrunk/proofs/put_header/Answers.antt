-- `shrunk::put_header` meets its contract: the three fields, one after the other. Assumes nothing.
use mathlib.Core.Path.{◌∙◌}
use lib.ListN.{length-set}
use Rattle.shrunk.proofs.Ways.{header-laid}
use Rattle.shrunk.proofs.put_header.Goals as goal

pub shape_of-out : goal.shape_of-out
shape_of-out c = simp length-set at c.put_big_u64.auto.b ∙ c.put_big_u32.auto.b

pub returns : goal.returns
returns c =
    let a = c.args in
    header-laid a.base a.n a.out.now _ _ c.put_big_u32.ensures c.put_big_u64.ensures
