-- `wal::put_id` meets its contract: the tag, then the id's bytes. Assumes nothing.
use mathlib.Core.Path.{◌∙◌}
use lib.ListN.{length-set}
use Rattle.fields.specs.Bytes.{bytes_of}
use Rattle.wal.proofs.WriteLaws.{tag-laid}
use Rattle.wal.proofs.put_id.Goals as goal

pub shape_of-log : goal.shape_of-log
shape_of-log c = c.put_u64.auto.b ∙ simp length-set

pub returns : goal.returns
returns c =
    let a = c.args in
    tag-laid a.at a.tag (bytes_of 8 a.id.0) a.log.now c.put_u64.new.b c.put_u64.ensures
