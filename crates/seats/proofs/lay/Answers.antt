-- `seats::lay` meets its contract: what is left to store, stored, gives what was asked for. Assumes nothing.
use mathlib.Core.Path.{sym, ◌∙◌}
use native.Mathlib.Omega.{arith}
use lib.ListN.{length-set}
use Rattle.seats.proofs.Laws.{copy-turn, copy-end}
use Rattle.seats.proofs.lay.Goals as goal

pub loop-i-preserved : goal.loop-i-preserved
loop-i-preserved c =
    let l = c.loop-i in (
      simp length-set l.invariant.0,
      rw c.from.ensures (sym (copy-turn l.touched c.args.pages.now l.i (omega (arith, c.held-i-end.ensures)))) ∙ l.invariant.1,
    )

pub returns : goal.returns
returns c =
    let l = c.loop-i in
    sym (copy-end l.touched c.args.pages.now l.i (omega (arith, c.held-i-end.ensures, l.invariant.0))) ∙ l.invariant.1
