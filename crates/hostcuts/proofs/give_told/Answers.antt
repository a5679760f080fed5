-- `hostcuts::give_told` meets its contract: nothing is told, or kind, offset and length. Assumes nothing.
use mathlib.Core.Path.{sym, ◌∙◌}
use Rattle.std.specs.Prelude.{Some, None}
use Rattle.words.specs.Values.{four}
use Rattle.hostcuts.proofs.Laws.{told-values}
use Rattle.hostcuts.proofs.give_told.Goals as goal

pub returns-in_default : goal.returns-in_default
unfolding four
returns-in_default c = rw (c.give.ensures, c.number_of.ensures) (told-values c.args.r None (sym c.in_default.is ∙ c.unwrap_or.ensures))

pub returns : goal.returns
unfolding four
returns c = rw (c.give-2.ensures, c.number_of-2.ensures, c.number.ensures) (told-values c.args.r (Some c.in-Some.t) (sym c.in-Some.is ∙ c.unwrap_or.ensures))
