-- `picks::any_bad` meets its contract. Assumes nothing.
use mathlib.Core.Path.{sym, ◌∙◌}
use borrow.Author.Rules.{rules}
use borrow.Author.Tests.{tests}
use Rattle.std.proofs.lemmas.Iterator.{YieldsList-from_slice}
use Rattle.std.proofs.lemmas.Iterator.Search.{any_from_yields_List}
use Rattle.frames.specs.Pages.{bad_page}
use Rattle.picks.proofs.Laws.{bad-any}
use Rattle.picks.proofs.any_bad.Goals as goal

pub returns : goal.returns
returns c = any_from_yields_List bad_page _ _ _ c.any.ensures.ran (YieldsList-from_slice c.args.list.now cc) (λ x b q k. search (rules, tests)) ∙ sym (bad-any c.args.list.now)
