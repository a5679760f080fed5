-- `shrunk::base_in` meets its contract: a file that fits has its base within the limit. Assumes nothing.
use mathlib.Core.Path.{refl}
use native.Mathlib.Omega.{arith}
use Rattle.shrunk.specs.Form.{base_of}
use Rattle.shrunk.proofs.FormLaws.{fits-means}
use Rattle.shrunk.proofs.base_in.Goals as goal

pub overflow_cast-result : goal.overflow_cast-result
unfolding base_of
overflow_cast-result c =
    let f = fits-means c.args.s.now c.requires in
    omega (arith, f.limited, c.get_big_u64.ensures)

pub returns : goal.returns
unfolding base_of
returns c =
    let f = fits-means c.args.s.now c.requires in
    rw c.get_big_u64.ensures (refl, f.limited, f.fourfold)
