-- `meta::has_meta` meets its contract: both tests, in their order. Assumes nothing.
use Rattle.std.proofs.Common.{sym, ◌∙◌}
use Rattle.meta.specs.Page.{meta_magic}
use Rattle.meta.proofs.Laws.{meta-short, meta-long}
use borrow.Author.Tests.{lt-leb}
use Rattle.meta.proofs.has_meta.Goals as goal

pub returns-then-s-ge-PAGE_SIZE : goal.returns-then-s-ge-PAGE_SIZE
unfolding meta_magic
returns-then-s-ge-PAGE_SIZE c = c.begins.ensures ∙ sym (meta-long 4096 _ c.if-s-ge-PAGE_SIZE.true)

pub returns-else-s-ge-PAGE_SIZE : goal.returns-else-s-ge-PAGE_SIZE
returns-else-s-ge-PAGE_SIZE c = lt-leb 4096 _ c.if-s-ge-PAGE_SIZE.false ∙ sym (meta-short 4096 _ c.if-s-ge-PAGE_SIZE.false)
