-- `xacts::written_byte` meets its contract: the four slots written and put together. Assumes nothing.
use mathlib.Core.Path.{◌∙◌}
use Rattle.xacts.specs.Pages.{written_as}
use Rattle.xacts.proofs.Remade.{four-read}
use Rattle.xacts.proofs.written_byte.Goals as goal

pub returns : goal.returns
returns c =
    let a = c.args in
    c.byte_of.ensures ∙ four-read (written_as a.mark) a.id _ _ _ _ _ c.written_as-c0.ensures.0 c.written_as-c1.ensures.0
    c.written_as-c2.ensures.0 c.written_as-c3.ensures.0
