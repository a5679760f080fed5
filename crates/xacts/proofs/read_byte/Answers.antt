-- `xacts::read_byte` meets its contract: the four slots read and put together. Assumes nothing.
use mathlib.Core.Path.{◌∙◌}
use Rattle.xacts.specs.Pages.{read_as}
use Rattle.xacts.proofs.Remade.{four-read}
use Rattle.xacts.proofs.read_byte.Goals as goal

pub returns : goal.returns
returns c =
    c.byte_of.ensures ∙ four-read (λ t c. read_as c) 0 _ _ _ _ _ c.read_as-c0.ensures.0 c.read_as-c1.ensures.0
    c.read_as-c2.ensures.0 c.read_as-c3.ensures.0
