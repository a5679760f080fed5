-- `still::hand_pages` meets its contract: what is left to store, stored, gives what was asked for. Assumes nothing.
use mathlib.Core.Path.{sym, ◌∙◌}
use native.Mathlib.Omega.{arith}
use borrow.Author.Rules.{rules}
use lib.ListN.{take, length-take}
use Rattle.still.proofs.Handing.{good-at, hand_end, hand-laid}
use Rattle.still.proofs.hand_pages.Goals as goal

pub overflow_cast-out : goal.overflow_cast-out
overflow_cast-out c =
    let fits = good-at (take c.args.n c.args.touched.now) c.loop-i.i c.requires.2 (omega arith) in
    search (rules, fits)

pub returns : goal.returns
returns c =
    let pages = take c.args.n c.args.touched.now in
    sym (hand_end pages c.loop-i.out c.loop-i.i (omega arith)) ∙ c.loop-i.invariant ∙ hand-laid pages c.args.out.now (simp length-take (omega arith))
