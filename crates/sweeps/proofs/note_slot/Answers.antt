-- `sweeps::note_slot` meets its contract: no entry for a slot that is 0, else one. Assumes nothing.
use mathlib.Core.Path.{ap, ◌∙◌}
use Rattle.table.specs.declared.Status.{Status}
use Rattle.rows.specs.Rows.{rowed, held_row}
use Rattle.sweeps.proofs.Laws.{slot-none, slot-one}
use Rattle.sweeps.proofs.note_slot.Goals as goal

pub returns-then-c-eq0 : goal.returns-then-c-eq0
returns-then-c-eq0 c = let a = c.args in slot-none (rowed a.h a.rows.now) a.id a.c c.if-c-eq0.true

pub returns : goal.returns
returns c =
    let a = c.args in
    let s = c.loaded_status-status in
    let h = c.hold.ensures ∙ ap (λ (x : Status). held_row 256 (rowed a.h a.rows.now) (record { id = record { 0 = a.id }; status = x })) s.ensures in
    slot-one (rowed a.h a.rows.now) _ a.id a.c c.if-c-eq0.false h
