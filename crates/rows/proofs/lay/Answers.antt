-- `rows::lay` meets its contract: the rows held are copied over the front, and the rest stays. Assumes nothing.
use mathlib.Core.Path.{refl, sym, ◌∙◌}
use native.Mathlib.Omega.{arith}
use Rattle.fields.proofs.Stored.{copied-in}
use Rattle.rows.proofs.lay.Goals as goal

pub returns : goal.returns
returns c =
    let h = c.held-list in
    rw (← h.ensures.list) (c.copy.ensures ∙ sym (copied-in c.args.rows.now h.result.now _ (omega (arith, h.ensures.len, c.told-rows)) refl))
