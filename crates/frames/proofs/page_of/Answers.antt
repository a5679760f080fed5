-- `frames::page_of` meets its contract: what is stored over a whole page is the page. Assumes nothing.
use mathlib.Core.Path.{◌∙◌}
use lib.ListN.{replicate}
use Rattle.fields.specs.Files.{file_of}
use Rattle.frames.specs.Copies.{page_of}
use Rattle.frames.proofs.CopyLaws.{stored-whole, length-page}
use Rattle.frames.proofs.page_of.Goals as goal

pub returns : goal.returns
returns c =
    let k = c.fill_page in
    let a = c.args in
    let f = file_of a.db.now a.len in
    k.ensures ∙ stored-whole (page_of 4096 f a.page) (replicate 4096 0) (length-page 4096 f a.page)
