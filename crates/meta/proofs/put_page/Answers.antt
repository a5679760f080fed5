-- `meta::put_page` meets its contract: the fields one after the other are the page. Assumes nothing.
use Rattle.meta.specs.Page.{meta_magic}
use Rattle.meta.proofs.Laws.{meta-laid}
use Rattle.meta.proofs.put_page.Goals as goal

pub returns : goal.returns
unfolding meta_magic
returns c =
    let a = c.args in
    let k₁ = c.copy in
    let k₂ = c.put_u64 in
    let k₃ = c.put_u64-2 in
    let k₄ = c.put_u64-3 in
    let k₅ = c.put_u32 in
    let k₆ = c.zero_fill in
    meta-laid 4096 a.next a.time a.mark a.b.now k₁.new.dst k₂.new.b k₃.new.b k₄.new.b k₅.new.b k₆.new.b
    k₁.ensures k₂.ensures k₃.ensures k₄.ensures k₅.ensures k₆.ensures
