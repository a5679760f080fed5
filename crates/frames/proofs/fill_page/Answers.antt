-- `frames::fill_page` meets its contract: the file has the page, or it reads as zeros. Assumes nothing.
use native.Mathlib.Omega.{arith}
use Rattle.fields.specs.Files.{file_of}
use Rattle.frames.proofs.CopyLaws.{page-has, page-none}
use Rattle.frames.proofs.fill_page.Goals as goal

pub returns-then-p-len : goal.returns-then-p-len
returns-then-p-len c =
    let k = c.fill_part in
    let a = c.args in
    rw (page-has 4096 (file_of a.db.now a.len) a.page (omega arith)) k.ensures

pub returns : goal.returns
returns c =
    let k = c.zero_fill in
    let a = c.args in
    rw (page-none 4096 (file_of a.db.now a.len) a.page (omega arith)) k.ensures
