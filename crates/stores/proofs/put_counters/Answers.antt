-- `stores::put_counters` meets its contract: page 0, and the longer of the two lengths. Assumes nothing.
use Rattle.stores.proofs.StepLaws.{meta-file}
use Rattle.meta.proofs.Laws.{length-meta}
use Rattle.meta.specs.Page.{meta_page}
use lib.Dec.{lit≤}
use Rattle.stores.proofs.put_counters.Goals as goal

pub returns : goal.returns
returns c =
    let k = c.put_meta in
    let a = c.args in
    let m = a.m in
    meta-file 4096 c.max.result a.len (meta_page 4096 m.next.0 m.time.0 m.mark.0) a.db.now k.new.buf (length-meta 4096 (lit≤ tt) m.next.0 m.time.0 m.mark.0) k.ensures c.max.ensures
