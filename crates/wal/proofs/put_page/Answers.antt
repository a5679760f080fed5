-- `wal::put_page` meets its contract: the tag, the page number, the page. Assumes nothing.
use mathlib.Core.Path.{◌∙◌}
use lib.ListN.{length-set}
use Rattle.wal.proofs.WriteLaws.{page-laid}
use Rattle.wal.proofs.put_page.Goals as goal

pub shape_of-log : goal.shape_of-log
shape_of-log c = c.lay.auto.b ∙ c.put_u32.auto.b ∙ simp length-set

pub returns : goal.returns
returns c =
    let a = c.args in
    page-laid a.at a.page a.bytes.now a.log.now c.put_u32.new.b c.lay.new.b c.put_u32.ensures c.lay.ensures
